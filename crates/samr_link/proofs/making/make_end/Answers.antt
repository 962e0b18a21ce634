use Rattle.std.proofs.Common.{map, ap, arith, []}
use Rattle.std.proofs.lemmas.List.{length-map}
use Rattle.std.specs.Arc.{arc_value}
use Rattle.samr_link.specs.Queue.{inbox_id, IsPost, IsNewPost}
use Rattle.samr_link.proofs.Lending.{none_posted}
use Rattle.samr_link.proofs.Zips.{zip_weaker}
use Rattle.samr_link.proofs.making.make_end.Goals as goal

pub invariant_of-result : goal.invariant_of-result
invariant_of-result g c =
    let same = c.in_ok-theirs.ensures in
    let ids = map inbox_id (arc_value c.in_ok-theirs.theirs).items in
    let posts = rw c.deref.ensures at c.in_ok-posts.ensures.posts in (
      rw same c.requires.roomy,
      record {
        within = rw same (omega (arith, c.requires.within, length-map (arc_value c.args.inboxes.now).items inbox_id));
        posting = zip_weaker (IsNewPost c.args.rank) (IsPost c.args.rank) (λ t p h. h.0) ids c.in_ok-posts.posts.items posts;
        taking = rw same (λ t. (c.requires.takes t).0);
      },
    )

pub returns-clause-fresh : goal.returns-clause-fresh
returns-clause-fresh g c =
    let ids = map inbox_id (arc_value c.in_ok-theirs.theirs).items in
    let posts = rw c.deref.ensures at c.in_ok-posts.ensures.posts in record {
      none_posted = λ told a. none_posted g.M.Mail.name c.args.rank ids c.in_ok-posts.posts.items a posts;
      none_taken = λ told. ap (map g.M.Mail.name) (c.requires.takes (record { words = 0; slots = 0; views_name = 0; atom = 0; block = 0; offset = 0; slot_names = [] })).1;
    }

-- The fields of a problem, put together one by one.
use Rattle.std.proofs.Common.{◌≡◌, ◌∙◌, ap, ℕ, ℤ, pos, List, codes, min, sym, subst}
use Rattle.std.proofs.lemmas.Int.{to_z-of_z}
use mir.Syntax.{w64}
use mir.Val.{SFits, to_z, of_z}
use Rattle.toml.specs.Data.{Members, get_member}
use Rattle.samr_problem.specs.declared.context.Document.{Document}
use Rattle.samr_box.specs.declared.vector.IVec.{IVec}
use Rattle.samr_problem.specs.declared.field.Field.{Field}
use Rattle.samr_problem.specs.Contexts.{number_at}
use Rattle.samr_problem.specs.Fields.{Fields, fields_from, fields_in, probes_in, parts_in, shapes_in, vector_at, width_of}
use Rattle.samr_problem.specs.Problems.{IsProblem}
use Rattle.samr_problem.specs.Values.{flags_of, small, word}

-- each field of a problem is what the document gives
pub record IsFrom (document : Document) (doc : Members) (p : Fields) : Type 0 where
  pub format : p.format ≡ small (number_at doc (codes "format") (pos 0))
  pub dim : p.dim ≡ min document.dim 255
  pub domain : p.domain ≡ document.domain
  pub periodic : p.periodic ≡ flags_of document.dim (get_member (codes "periodic") doc)
  pub block : p.block ≡ vector_at document.dim doc (codes "block") (pos 1) (pos 1)
  pub levels : p.levels ≡ small document.levels
  pub ratio : p.ratio ≡ document.ratios
  pub nest : p.nest ≡ vector_at document.dim doc (codes "nest") (pos 1) (pos 0)
  pub tag_buffer : p.tag_buffer ≡ vector_at document.dim doc (codes "tag_buffer") (pos 0) (pos 0)
  pub efficiency : p.efficiency ≡ word (number_at doc (codes "efficiency") (pos 80))
  pub smallest : p.smallest ≡ number_at doc (codes "smallest") (pos 2)
  pub largest : p.largest ≡ number_at doc (codes "largest") (pos 64)
  pub tile : p.tile ≡ number_at doc (codes "tile") (pos 0)
  pub regrid : p.regrid ≡ word (number_at doc (codes "regrid") (pos 1))
  pub steps : p.steps ≡ word (number_at doc (codes "steps") (pos 0))
  pub fields : p.fields ≡ fields_in document.dim doc
  pub probes : p.probes ≡ probes_in document.dim doc
  pub parts : p.parts ≡ parts_in document.dim doc
  pub shapes : p.shapes ≡ shapes_in document.dim doc
  pub width : p.width ≡ width_of p.levels p.nest p.tag_buffer p.fields

pub assembled : (document : Document) (doc : Members) (p : Fields) → IsFrom document doc p → p ≡ fields_from document doc
unfolding fields_from
assembled document doc p is = λ i. record {
  format = is.format i;
  dim = is.dim i;
  domain = is.domain i;
  periodic = is.periodic i;
  block = is.block i;
  levels = is.levels i;
  ratio = is.ratio i;
  nest = is.nest i;
  tag_buffer = is.tag_buffer i;
  efficiency = is.efficiency i;
  smallest = is.smallest i;
  largest = is.largest i;
  tile = is.tile i;
  regrid = is.regrid i;
  steps = is.steps i;
  fields = is.fields i;
  probes = is.probes i;
  parts = is.parts i;
  shapes = is.shapes i;
  width = (is.width ∙ (λ j. width_of (is.levels j) (is.nest j) (is.tag_buffer j) (is.fields j))) i;
}

-- the width, by the fields themselves and by a slice of them
pub wide : (levels : ℕ) (nest tag_buffer width : IVec) (slice fields : List Field) → width ≡ width_of levels nest tag_buffer slice → slice ≡ fields → width ≡ width_of levels nest tag_buffer fields
wide levels nest tag_buffer width slice fields is same = is ∙ ap (λ fs. width_of levels nest tag_buffer fs) same

-- a number of 64 bits, as the program holds it
pub kept : {x y : ℤ} → SFits w64 x → x ≡ y → to_z w64 (of_z w64 x) ≡ y
kept {x} {y} fits same = to_z-of_z w64 x fits ∙ same

pub sound_along : (p q : Fields) → p ≡ q → IsProblem q → IsProblem p
sound_along p q same sound = let P : Fields → Type 0 = λ r. IsProblem r in subst P (sym same) sound

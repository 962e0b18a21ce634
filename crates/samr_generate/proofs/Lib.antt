mod Pieces
mod DrawLaws
mod MadeLaws

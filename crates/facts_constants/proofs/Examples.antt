-- "32,768 bytes a section or body", on both sides: 32,768 bytes are read, and their first number is too long; one byte more is 4 at 0.
use Prim.Native.Nat.{ℕ}
use mathlib.Core.Path.{◌≡◌, refl}
use mathlib.Core.List.{List, [], ◌∷◌}
use lib.ListN.{replicate}
use Rattle.scope.specs.Sections.{empty_library}
use Rattle.scope.specs.Judging.{in_library, in_addon, plain, rejected, judge_joined}
use Rattle.scope.specs.Bodies.{judge_body}
use Rattle.scope.proofs.Computes.{computes}

-- a function from nothing to nothing
abbrev function : List ℕ
function = 0x01 ∷ 0x60 ∷ 0x00 ∷ 0x00 ∷ []

pub section_read : judge_joined empty_library (replicate 32_768 0x80) ≡ rejected 2 (in_addon 0)
unfolding computes
section_read = refl

pub section_too_long : judge_joined empty_library (replicate 32_769 0x80) ≡ rejected 4 (in_addon 0)
unfolding computes
section_too_long = refl

pub library_read : judge_joined (replicate 32_768 0x80) function ≡ rejected 2 (in_library 0)
unfolding computes
library_read = refl

pub library_too_long : judge_joined (replicate 32_769 0x80) function ≡ rejected 4 (in_library 0)
unfolding computes
library_too_long = refl

pub body_read : judge_body empty_library function (replicate 32_768 0x80) 0 ≡ rejected 2 (plain 0)
unfolding computes
body_read = refl

pub body_too_long : judge_body empty_library function (replicate 32_769 0x80) 0 ≡ rejected 4 (plain 0)
unfolding computes
body_too_long = refl

-- 27, at 0: type 0 is a struct's, and there is no type 1
pub not_a_function_lem : judge_body empty_library (0x01 ∷ 0x5F ∷ 0x00 ∷ []) (0x00 ∷ 0x0B ∷ []) 0 ≡ rejected 27 (plain 0)
unfolding computes
not_a_function_lem = refl

pub no_such_type : judge_body empty_library function (0x00 ∷ 0x0B ∷ []) 1 ≡ rejected 27 (plain 0)
unfolding computes
no_such_type = refl

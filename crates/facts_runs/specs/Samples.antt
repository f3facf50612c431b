-- Bodies for the laws' examples. The first three are document 01's: one makes two objects, one has an allocation that
-- traps, one never ends. The fourth branches out of a block.
use Rattle.std.specs.Prelude.{ℕ, List, [], ◌∷◌}
use Rattle.scope.specs.Sections.{empty_library}
use Rattle.scope.specs.Judging.{Judged, accepted, rejected}
use Rattle.scope.specs.Bodies.{Body, judge_body}

abbrev pub F1 : List ℕ
F1 = 0x02 ∷ 0x4E ∷ 0x02 ∷ 0x4D ∷ 0x01 ∷ 0x5F ∷ 0x00 ∷ 0x4C ∷ 0x00 ∷ 0x5F ∷ 0x00 ∷ 0x60 ∷ 0x00 ∷ 0x01 ∷ 0x64 ∷ 0x62 ∷ 0x00 ∷ []

-- run of 3: done, object 1 with descriptor object 0; of 2: spent
abbrev pub two_objects : List ℕ
two_objects = 0x00 ∷ 0xFB ∷ 0x00 ∷ 0x01 ∷ 0xFB ∷ 0x20 ∷ 0x00 ∷ 0x0B ∷ []

-- trap 43, 2 steps
abbrev pub null_descriptor : List ℕ
null_descriptor = 0x00 ∷ 0xD0 ∷ 0x62 ∷ 0x01 ∷ 0xFB ∷ 0x20 ∷ 0x00 ∷ 0x0B ∷ []

-- run of 10 spent
abbrev pub endless : List ℕ
endless = 0x00 ∷ 0x03 ∷ 0x40 ∷ 0x0C ∷ 0x00 ∷ 0x0B ∷ 0x00 ∷ 0x0B ∷ []

-- block, br 0, nop, end, unreachable, end: trap 41, 3 steps
abbrev pub branch_out : List ℕ
branch_out = 0x00 ∷ 0x02 ∷ 0x40 ∷ 0x0C ∷ 0x00 ∷ 0x01 ∷ 0x0B ∷ 0x00 ∷ 0x0B ∷ []

abbrev pub body_of : Judged Body → Body
body_of (accepted b) = b
body_of (rejected n p) = record { types = []; function = record { parameters = []; results = [] }; locals = []; code = [] }

-- the body of type 2 of F1 with these bytes
abbrev pub sample : List ℕ → Body
sample s = body_of (judge_body empty_library F1 s 2)

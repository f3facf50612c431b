-- Request 1 of document 02 at bytes: bodies and runs of function 0 of a section, each with the answer that the request's words ask
-- for, worked out before any was computed. A run has nine steps.
use Rattle.std.specs.Prelude.{ℕ, Bool, List, [], ◌∷◌, map, eqb}
use Rattle.scope.specs.Sections.{empty_library}
use Rattle.scope.specs.Lists.{pairwise, joined}
use Rattle.scope.specs.Syntax.{Number, i32, i64, f32, f64}
use Rattle.scope.specs.Judging.{place_number, Judged, accepted, rejected}
use Rattle.scope.specs.Bodies.{Body, instructions as count_of, judge_body}
use Rattle.scope.specs.Machine.{Value, number}
use Rattle.scope.specs.Running.{Ending, done, trapped, spent, wrong, Trial, trial_run, place_of}
use Rattle.scope.specs.Memory.{value_words}

pub data Question : Type 0 where
  body : List ℕ → List ℕ → Question
  run : List ℕ → List ℕ → Question

pub record Sample : Type 0 where
  pub asks : Question
  pub says : List ℕ

abbrev values_of : List Value → List ℕ
values_of vs = joined (map value_words vs)

-- the answers as numbers

abbrev pub refusal : ℕ → ℕ → List ℕ
refusal n place = 0 ∷ n ∷ place ∷ []

abbrev pub instructions : ℕ → List ℕ
instructions n = 1 ∷ n ∷ []

-- done after so many steps, with one result
abbrev pub done_with : ℕ → Number → ℕ → List ℕ
done_with steps k n = 2 ∷ steps ∷ values_of (number k n ∷ [])

-- a trap, its place, the steps, and the operands as they then stand, the top first
abbrev pub trap_at : ℕ → ℕ → ℕ → List Value → List ℕ
trap_at trap place steps vs = 3 ∷ trap ∷ place ∷ steps ∷ values_of vs

abbrev body_words : Judged Body → List ℕ
body_words (accepted b) = instructions (count_of b)
body_words (rejected n p) = refusal n (place_number p)

abbrev ending_words : List ℕ → Ending → List ℕ
ending_words s (done steps m) = 2 ∷ steps ∷ values_of m.operands
ending_words s (trapped trap steps m) = 3 ∷ trap ∷ place_of s m.code ∷ steps ∷ values_of m.operands
ending_words s (spent steps m) = 4 ∷ steps ∷ []
ending_words s (wrong steps m) = 5 ∷ steps ∷ []

abbrev run_words : List ℕ → Judged Trial → List ℕ
run_words s (accepted t) = ending_words s t.ending
run_words s (rejected n p) = refusal n (place_number p)

abbrev pub answer : Question → List ℕ
answer (body section s) = body_words (judge_body empty_library section s 0)
answer (run section s) = run_words s (trial_run empty_library section s 0 9)

abbrev pub answered : Sample → Bool
answered q = pairwise eqb (answer q.asks) q.says

abbrev pub samples : List Sample
samples =
    -- 1. A cut float: 1 at the first of its bytes.
    record { asks = body (0x01 ∷ 0x60 ∷ 0x00 ∷ 0x01 ∷ 0x7D ∷ []) (0x00 ∷ 0x43 ∷ 0x00 ∷ 0x00 ∷ 0x80 ∷ []); says = refusal 1 2 }
    ∷ record { asks = body (0x01 ∷ 0x60 ∷ 0x00 ∷ 0x01 ∷ 0x7D ∷ []) (0x00 ∷ 0x43 ∷ []); says = refusal 1 2 }
    ∷ record { asks = body (0x01 ∷ 0x60 ∷ 0x00 ∷ 0x01 ∷ 0x7C ∷ []) (0x00 ∷ 0x44 ∷ 0x00 ∷ 0x00 ∷ 0x00 ∷ 0x00 ∷ 0x00 ∷ 0x00 ∷ 0xF0 ∷ []); says = refusal 1 2 }
    -- 2. The range ends at C4.
    ∷ record { asks = body (0x01 ∷ 0x60 ∷ 0x00 ∷ 0x00 ∷ []) (0x00 ∷ 0xC5 ∷ 0x0B ∷ []); says = refusal 3 1 }
    ∷ record { asks = body (0x01 ∷ 0x60 ∷ 0x00 ∷ 0x00 ∷ []) (0x00 ∷ 0xFC ∷ 0x00 ∷ 0x0B ∷ []); says = refusal 3 1 }
    -- 3. A division by zero is 46 and no other trap. The operands stay.
    ∷ record { asks = run (0x01 ∷ 0x60 ∷ 0x00 ∷ 0x01 ∷ 0x7F ∷ []) (0x00 ∷ 0x41 ∷ 0x01 ∷ 0x41 ∷ 0x00 ∷ 0x6D ∷ 0x0B ∷ []); says = trap_at 46 5 3 (number i32 0 ∷ number i32 1 ∷ []) }
    ∷ record { asks = run (0x01 ∷ 0x60 ∷ 0x00 ∷ 0x01 ∷ 0x7D ∷ []) (0x00 ∷ 0x43 ∷ 0x00 ∷ 0x00 ∷ 0x80 ∷ 0x3F ∷ 0x91 ∷ 0x0B ∷ []); says = trap_at 46 6 2 (number f32 0x3F80_0000 ∷ []) }
    ∷ record { asks = run (0x01 ∷ 0x60 ∷ 0x00 ∷ 0x01 ∷ 0x7E ∷ []) (0x00 ∷ 0x41 ∷ 0x05 ∷ 0xAC ∷ 0x0B ∷ []); says = trap_at 46 3 2 (number i32 5 ∷ []) }
    -- 4. Only add, sub, mul and div write the canonical NaN.
    ∷ record { asks = run (0x01 ∷ 0x60 ∷ 0x00 ∷ 0x01 ∷ 0x7D ∷ []) (0x00 ∷ 0x43 ∷ 0x01 ∷ 0x00 ∷ 0xC0 ∷ 0xFF ∷ 0x0B ∷ []); says = done_with 2 f32 0xFFC0_0001 }
    ∷ record { asks = run (0x01 ∷ 0x60 ∷ 0x00 ∷ 0x01 ∷ 0x7D ∷ []) (0x00 ∷ 0x43 ∷ 0x01 ∷ 0x00 ∷ 0xC0 ∷ 0xFF ∷ 0x8C ∷ 0x0B ∷ []); says = done_with 3 f32 0x7FC0_0001 }
    ∷ record { asks = run (0x01 ∷ 0x60 ∷ 0x00 ∷ 0x01 ∷ 0x7D ∷ []) (0x00 ∷ 0x43 ∷ 0x01 ∷ 0x00 ∷ 0x80 ∷ 0x7F ∷ 0x8C ∷ 0x0B ∷ []); says = done_with 3 f32 0xFF80_0001 }
    ∷ record { asks = run (0x01 ∷ 0x60 ∷ 0x00 ∷ 0x01 ∷ 0x7D ∷ []) (0x00 ∷ 0x43 ∷ 0x01 ∷ 0x00 ∷ 0xC0 ∷ 0xFF ∷ 0x43 ∷ 0x00 ∷ 0x00 ∷ 0x00 ∷ 0x00 ∷ 0x93 ∷ 0x0B ∷ []); says = done_with 4 f32 0x7FC0_0000 }
    -- a signalling NaN of 64 bits through a local
    ∷ record { asks = run (0x01 ∷ 0x60 ∷ 0x00 ∷ 0x01 ∷ 0x7C ∷ []) (0x01 ∷ 0x01 ∷ 0x7C ∷ 0x44 ∷ 0x01 ∷ 0x00 ∷ 0x00 ∷ 0x00 ∷ 0x00 ∷ 0x00 ∷ 0xF0 ∷ 0xFF ∷ 0x22 ∷ 0x00 ∷ 0x0B ∷ []); says = done_with 3 f64 0xFFF0_0000_0000_0001 }
    -- 5. i64.const has up to ten bytes.
    ∷ record { asks = body (0x01 ∷ 0x60 ∷ 0x00 ∷ 0x01 ∷ 0x7E ∷ []) (0x00 ∷ 0x42 ∷ 0x80 ∷ 0x80 ∷ 0x80 ∷ 0x80 ∷ 0x80 ∷ 0x80 ∷ 0x80 ∷ 0x80 ∷ 0x80 ∷ 0x01 ∷ 0x0B ∷ []); says = refusal 2 2 }
    ∷ record { asks = run (0x01 ∷ 0x60 ∷ 0x00 ∷ 0x01 ∷ 0x7E ∷ []) (0x00 ∷ 0x42 ∷ 0x80 ∷ 0x80 ∷ 0x80 ∷ 0x80 ∷ 0x80 ∷ 0x80 ∷ 0x80 ∷ 0x80 ∷ 0x80 ∷ 0x7F ∷ 0x0B ∷ []); says = done_with 2 i64 0x8000_0000_0000_0000 }
    ∷ record { asks = body (0x01 ∷ 0x60 ∷ 0x00 ∷ 0x01 ∷ 0x7E ∷ []) (0x00 ∷ 0x42 ∷ 0x80 ∷ 0x80 ∷ 0x80 ∷ 0x80 ∷ 0x80 ∷ 0x80 ∷ 0x80 ∷ 0x80 ∷ 0x80 ∷ []); says = refusal 1 2 }
    -- 6. -0 equals +0. Where a NaN stands only ne holds.
    ∷ record { asks = run (0x01 ∷ 0x60 ∷ 0x00 ∷ 0x01 ∷ 0x7F ∷ []) (0x00 ∷ 0x43 ∷ 0x00 ∷ 0x00 ∷ 0x00 ∷ 0x00 ∷ 0x43 ∷ 0x00 ∷ 0x00 ∷ 0x00 ∷ 0x80 ∷ 0x5B ∷ 0x0B ∷ []); says = done_with 4 i32 1 }
    ∷ record { asks = run (0x01 ∷ 0x60 ∷ 0x00 ∷ 0x01 ∷ 0x7F ∷ []) (0x00 ∷ 0x43 ∷ 0x00 ∷ 0x00 ∷ 0xC0 ∷ 0x7F ∷ 0x43 ∷ 0x00 ∷ 0x00 ∷ 0xC0 ∷ 0x7F ∷ 0x5C ∷ 0x0B ∷ []); says = done_with 4 i32 1 }
    ∷ record { asks = run (0x01 ∷ 0x60 ∷ 0x00 ∷ 0x01 ∷ 0x7F ∷ []) (0x00 ∷ 0x43 ∷ 0x00 ∷ 0x00 ∷ 0xC0 ∷ 0x7F ∷ 0x43 ∷ 0x00 ∷ 0x00 ∷ 0xC0 ∷ 0x7F ∷ 0x5B ∷ 0x0B ∷ []); says = done_with 4 i32 0 }
    -- 7. Rounded once, subnormals too.
    ∷ record { asks = run (0x01 ∷ 0x60 ∷ 0x00 ∷ 0x01 ∷ 0x7D ∷ []) (0x00 ∷ 0x43 ∷ 0x00 ∷ 0x00 ∷ 0x80 ∷ 0x3F ∷ 0x43 ∷ 0x00 ∷ 0x00 ∷ 0x80 ∷ 0x33 ∷ 0x92 ∷ 0x0B ∷ []); says = done_with 4 f32 0x3F80_0000 }
    ∷ record { asks = run (0x01 ∷ 0x60 ∷ 0x00 ∷ 0x01 ∷ 0x7D ∷ []) (0x00 ∷ 0x43 ∷ 0x01 ∷ 0x00 ∷ 0x00 ∷ 0x00 ∷ 0x43 ∷ 0x00 ∷ 0x00 ∷ 0x00 ∷ 0x3F ∷ 0x94 ∷ 0x0B ∷ []); says = done_with 4 f32 0x0000_0000 }
    -- its bytes are no LEB number: request 10 lets 80 80 80 00 stand
    ∷ record { asks = run (0x01 ∷ 0x60 ∷ 0x00 ∷ 0x01 ∷ 0x7D ∷ []) (0x00 ∷ 0x43 ∷ 0x80 ∷ 0x80 ∷ 0x80 ∷ 0x00 ∷ 0x0B ∷ []); says = done_with 2 f32 0x0080_8080 }
    -- 8. Unreachable code.
    ∷ record { asks = body (0x01 ∷ 0x60 ∷ 0x00 ∷ 0x00 ∷ []) (0x00 ∷ 0x00 ∷ 0x6A ∷ 0x1A ∷ 0x0B ∷ []); says = instructions 4 }
    ∷ record { asks = body (0x01 ∷ 0x60 ∷ 0x00 ∷ 0x00 ∷ []) (0x00 ∷ 0x00 ∷ 0x42 ∷ 0x00 ∷ 0x6A ∷ 0x1A ∷ 0x0B ∷ []); says = refusal 20 4 }
    ∷ []

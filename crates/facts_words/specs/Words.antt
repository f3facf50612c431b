-- What the definitions answer, as a list of numbers that can be compared and printed: 0, number, place and its input for a refusal;
-- else 1 and the answer's own words.
use Rattle.std.specs.Prelude.{ℕ, ◌+◌, ◌*◌, ◌^◌, Bool, cond, List, [], ◌∷◌, ◌++◌, length, eqb}
use Rattle.scope.specs.Lists.{pairwise}
use Rattle.scope.specs.Judging.{place_number, place_input, Judged, accepted, rejected, judge_joined, ask_type, part_of}
use Rattle.scope.specs.Bodies.{instructions, judge_body}
use Rattle.scope.specs.Running.{Ending, done, trapped, spent, wrong, trial_run}
use Rattle.scope.specs.Memory.{joined_rows, joined_shared, joined_codes, StateWords, state_words}
use Rattle.scope.specs.Answers.{machine_of}

abbrev pub answered : {A : Type 0} → (A → List ℕ) → Judged A → List ℕ
answered words (accepted x) = 1 ∷ words x
answered words (rejected n p) = 0 ∷ n ∷ place_number p ∷ place_input p ∷ []

-- the type count, then the rows and both lists of codes of the table
abbrev pub section_words : List ℕ → List ℕ → List ℕ
section_words library s = answered (λ j. length j.types ∷ joined_rows j ++ joined_shared j ++ joined_codes j) (judge_joined library s)

-- 1 where the library holds the definition, 2 where the add-on's section does, and its bytes
abbrev pub type_words : List ℕ → List ℕ → ℕ → List ℕ
type_words library s x = answered (λ h. cond h.of_library 1 2 ∷ part_of library s (accepted h)) (ask_type library s x)

-- the count of instructions
abbrev pub body_words : List ℕ → List ℕ → ℕ → List ℕ → List ℕ
body_words library section x s = answered (λ b. instructions b ∷ []) (judge_body library section s x)

-- 1 done, 2 trap, 3 spent, 4 never; the trap's number; the steps
abbrev pub ending_words : Ending → List ℕ
ending_words (done steps m) = 1 ∷ 0 ∷ steps ∷ []
ending_words (trapped number steps m) = 2 ∷ number ∷ steps ∷ []
ending_words (spent steps m) = 3 ∷ 0 ∷ steps ∷ []
ending_words (wrong steps m) = 4 ∷ 0 ∷ steps ∷ []

abbrev pub all_words : StateWords → List ℕ
all_words w = w.counts ++ w.objects ++ w.cells ++ w.locals ++ w.operands ++ w.blocks

-- how it ended, then the state's words
abbrev pub run_words : List ℕ → List ℕ → ℕ → List ℕ → ℕ → List ℕ
run_words library section x s budget =
    answered (λ t. ending_words t.ending ++ all_words (state_words s (machine_of t.ending))) (trial_run library section s x budget)

abbrev pub same_words : List ℕ → List ℕ → Bool
same_words ws vs = pairwise eqb ws vs

-- the words as one number, 64 bits each behind a first 1
unfoldable pub packed : ℕ → List ℕ → ℕ
packed so [] = so
packed so (w ∷ ws) = packed (so * 2 ^ 64 + w) ws

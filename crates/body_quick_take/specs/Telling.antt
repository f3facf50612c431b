-- What it is that an instruction is told: the definition reads it there, and judges it to go on to what the words say then.
use Rattle.std.specs.Prelude.{ℕ, ◌+◌, ◌<◌, ◌≤◌, ◌≡◌, List, length, get_or}
use Rattle.std.proofs.Math.Option.{some}
use Rattle.std.proofs.Math.ListN.{get_elem?}
use Rattle.scope.specs.Sizes.{most_locals}
use Rattle.scope.specs.Reading.{got}
use Rattle.scope.specs.Numbers.{u32}
use Rattle.scope.specs.Instructions.{Instr, instr_at}
use Rattle.scope.specs.BodyRules.{Context, allowed}
use Rattle.scope.specs.Bodies.{goes_on, judge_instr}
use Rattle.type_table.specs.View.{codes_at}
use Rattle.body_state.specs.declared.Check.{Check}
use Rattle.body_state.specs.State.{val_at_word, state_at, Upright, Stamped}
use Rattle.body_quick_take.specs.declared.Done.{Done}
use Rattle.body_progress.specs.Standing.{Ordered, check_of, Stands}

-- The definition reads an instruction at `at` that ends at `next`, and it goes on from what the words say before to what they say after.
pub record Goes (c : Context) (s : List ℕ) (at : ℕ) (work work' : List ℕ) (count : ℕ) (st st' : Check) (next : ℕ) : Type 0 where
  pub instr : Instr
  pub reads : instr_at s at ≡ got instr next
  pub judged : judge_instr c (state_at work count st) instr ≡ allowed (goes_on (state_at work' count st'))
  pub upright : Upright work' count st'
  pub stamped : Stamped work count st.depth at → Stamped work' count st'.depth (at + 1)
  pub types : (i : ℕ) → i < most_locals → get_or work' i 0 ≡ get_or work i 0
  pub size : length work' ≡ length work

-- what is asked of an instruction whose first byte, at `at`, is b
pub record Asked (b : ℕ) (s : List ℕ) (at : ℕ) (work : List ℕ) (count depth base top dead : ℕ) : Type 0 where
  pub byte : get_elem? s at ≡ some b
  pub inside : at < length s
  pub small : b < 256
  pub stands : Stands work count depth base top dead

-- the same after FB: k is the number that follows it, in one byte
pub record AskedAfter (k : ℕ) (s : List ℕ) (at : ℕ) (work : List ℕ) (count depth base top dead : ℕ) : Type 0 where
  pub byte : get_elem? s at ≡ some 0xFB
  pub code : u32 s (at + 1) ≡ got k (at + 2)
  pub inside : at + 2 ≤ length s
  pub stands : Stands work count depth base top dead

-- Told, within its frame; or not, and nothing is written.
pub record Told (c : Context) (s : List ℕ) (at : ℕ) (work work' : List ℕ) (count depth base top dead : ℕ) (r : Done) : Type 0 where
  pub goes : (r.size ≡ 0 → ⊥) → Goes c s at work work' count (check_of depth base top dead) (check_of depth base r.top dead) (at + r.size)
  pub ordered : (r.size ≡ 0 → ⊥) → Ordered base r.top
  pub kept : r.size ≡ 0 → work' ≡ work

-- whatever the table says
pub record Plainly (s : List ℕ) (at : ℕ) (work work' : List ℕ) (count depth base top dead : ℕ) (r : Done) : Type 0 where
  pub is : (c : Context) → c.locals ≡ codes_at val_at_word work 0 count → Told c s at work work' count depth base top dead r

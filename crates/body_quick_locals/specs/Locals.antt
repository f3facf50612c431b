-- What a number says of a local, and what is written where a local is set after a value is put.
use Rattle.std.specs.Prelude.{ℕ, ◌+◌, ◌<◌, ◌≤◌, ◌^◌, ◌≡◌, List, length}
use Rattle.std.proofs.Math.Option.{some}
use Rattle.std.proofs.Math.ListN.{get_elem?}
use Rattle.scope.specs.Reading.{got}
use Rattle.scope.specs.Numbers.{u32}
use Rattle.type_table.specs.View.{val_at_code, codes_at, link_at}
use Rattle.body_state.specs.Layout.{code_bound}
use Rattle.body_state.specs.State.{val_at_word}
use Rattle.body_marks.specs.Marks.{Ready, Marked}
use Rattle.body_quick_take.specs.declared.Done.{Done}
use Rattle.body_quick_take.specs.Taking.{Put}
use Rattle.body_quick_locals.specs.declared.Named.{Named}

-- a local's number and its type, or no bytes
pub record LocalTold (s : List ℕ) (at : ℕ) (work : List ℕ) (count : ℕ) (r : Named) : Type 0 where
  pub is : (r.size ≡ 0 → ⊥) → u32 s at ≡ got r.number (at + r.size)
  pub inside : (r.size ≡ 0 → ⊥) → at + r.size ≤ length s
  pub there : (r.size ≡ 0 → ⊥) → r.number < count
  pub typed : (r.size ≡ 0 → ⊥) → get_elem? (codes_at val_at_word work 0 count) r.number ≡ some (val_at_code r.code)
  pub small : r.code < code_bound

-- a value may be put and a local set
pub record Setting (work : List ℕ) (count m size : ℕ) : Type 0 where
  pub ready : Ready work count m
  pub some' : 0 < size

pub record PutAndSet (work work' : List ℕ) (count m marks top w size : ℕ) (r : Done) : Type 0 where
  pub between : (r.size ≡ 0 → ⊥) → List ℕ
  pub put : (n : r.size ≡ 0 → ⊥) → Put work (between n) top w size r
  pub marked : (n : r.size ≡ 0 → ⊥) → Marked (between n) work' count m (link_at marks)
  pub kept : r.size ≡ 0 → work' ≡ work

-- Zero beyond what is counted, part by part.
use Rattle.std.specs.Prelude.{ℕ, ◌+◌, ◌*◌, ◌≤◌, ◌≡◌, List, length, take}
use Rattle.scope.specs.Sizes.{most_operands}
use Rattle.scope.specs.Layout.{value_span, object_span}
use Rattle.scope.specs.Memory.{filled}
use Rattle.run_state.specs.declared.Stage.{Stage}

pub record HeapRoom (st : Stage) (o c : List ℕ) : Type 0 where
  pub objects : object_span * st.objects ≤ length o
  pub cells : value_span * st.cells ≤ length c

pub record HeapSettled (st : Stage) (o c o' c' : List ℕ) : Type 0 where
  pub objects : o' ≡ filled o (take (object_span * st.objects) o)
  pub cells : c' ≡ filled c (take (value_span * st.cells) c)

pub record ValueRoom (count : ℕ) (st : Stage) (l p : List ℕ) : Type 0 where
  pub locals : value_span * count ≤ length l
  pub operands : value_span * (st.base + st.height) ≤ length p
  pub high : st.base + st.height ≤ most_operands

pub record ValuesSettled (count : ℕ) (st : Stage) (l p l' p' : List ℕ) : Type 0 where
  pub locals : l' ≡ filled l (take (value_span * count) l)
  pub operands : p' ≡ filled p (take (value_span * (st.base + st.height)) p)

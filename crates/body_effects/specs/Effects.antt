-- The state after a plan, where what was taken is known by what is left.
use Rattle.std.specs.Prelude.{true, cond, List, [], ◌++◌, ℕ}
use Rattle.scope.specs.Bodies.{Operand, on_top, State, marked}
use Rattle.type_table.specs.View.{link_at}
use Rattle.body_state.specs.declared.Plain.{Plain}
use Rattle.body_push.specs.Gives.{given_of}

-- the values that a plan gives, a local that it sets, and unknowns where it stops
unfoldable pub after_plain : List ℕ → State → Plain → List Operand → State
after_plain codes st p os =
    record {
      frames = st.frames;
      operands = cond p.stops [] (on_top (given_of codes p.rest p.back p.gives) ++ os);
      dead = cond p.stops true st.dead;
      is_set = marked (link_at p.marks) st.is_set;
    }

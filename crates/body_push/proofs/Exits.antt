-- Each way out of putting values on the stack: those of a list, where they are put back, then the one that a word names,
-- where all are within the sizes.
use Prim.Native.Nat.{ℕ, ◌+◌, ◌-◌, ◌%◌, ◌≤◌, ◌<◌}
use mathlib.Core.Path.{◌≡◌, refl, ◌∙◌}
use mathlib.Core.Bool.{Bool, true, false}
use mathlib.Core.List.{List, [], ◌∷◌, ◌++◌}
use native.Mathlib.Omega.{arith}
use lib.ListN.{length, length-append}
use borrow.Author.Tests.{ne_eqb}
use Rattle.std.specs.Prelude.{None, Some}
use Rattle.scope.specs.Sizes.{most_operands}
use Rattle.scope.specs.Syntax.{Val}
use Rattle.scope.specs.Bodies.{on_top}
use Rattle.scope.proofs.Impossible.{impossible}
use Rattle.body_state.specs.declared.Values.{Values}
use Rattle.body_state.specs.Layout.{word_bound, code_bound}
use Rattle.body_state.specs.State.{operand_at_code, val_at_word, results_at, values_of, LengthOf}
use Rattle.body_words.proofs.Laws.{known_kept}
use Rattle.body_put.specs.Putting.{Room, Pushed}
use Rattle.body_put.proofs.Laws.{on_top_append, pushed_none, pushed_more}
use Rattle.body_push.specs.Gives.{Long, back_of, given_of, BackLength, GivesLength, Space, PutBack, GivenTo}

-- nothing is put

put-none : (work : List ℕ) (base height : ℕ) {vs : List Val} → vs ≡ [] → PutBack work work base height vs
put-none work base height e =
    let same : height + 0 ≡ height = omega arith in
    rw e (record { pushed = rw same (pushed_none work base height) })

-- those of a list

module _ (codes : List ℕ) (list : Values) {back : Bool} where
  all_back : back ≡ true → back_of codes list back ≡ values_of codes list
  unfolding back_of
  all_back e = rw e

  none_back : back ≡ false → back_of codes list back ≡ []
  unfolding back_of
  none_back e = rw e

pub long_back : {list : Values} {back : Bool} {r : ℕ} → LengthOf list r → back ≡ true → BackLength list back r
long_back {list} a e = record { is = λ codes. rw (all_back codes list e) (a.is codes) }

pub nothing_back : (list : Values) {back : Bool} → back ≡ false → BackLength list back 0
nothing_back list e = record { is = λ codes. rw (none_back codes list e) }

module _ (codes : List ℕ) (list : Values) {back : Bool} {work : List ℕ} {base height : ℕ} where
  pub back_room : Space work base height (back_of codes list back) → back ≡ true → Room work base height (length (values_of codes list))
  back_room s e =
      let few : base + height + length (values_of codes list) ≤ most_operands = rw (all_back codes list e) at s.few in
      record { room = s.room; few = few }

  pub back_put : {work' : List ℕ} → back ≡ true → Pushed work work' base height (height + length (values_of codes list)) (on_top (values_of codes list)) → PutBack work work' base height (back_of codes list back)
  back_put e p = rw (all_back codes list e) (record { pushed = p })

  pub back_not : back ≡ false → PutBack work work base height (back_of codes list back)
  back_not e = put-none work base height (none_back codes list e)

-- the one that a word names

module _ {gives : ℕ} where
  names-none : gives ≡ 0 → results_at gives ≡ []
  unfolding results_at
  names-none e = rw e

  names-one : (gives ≡ 0 → ⊥) → results_at gives ≡ val_at_word (gives - 1) ∷ []
  unfolding results_at
  names-one n = rw (ne_eqb gives 0 n)

  pub gives_none : gives ≡ 0 → GivesLength gives 0
  gives_none e = record { is = rw (names-none e); small = omega arith }

  pub gives_one : (gives ≡ 0 → ⊥) → GivesLength gives 1
  gives_one n = record { is = rw (names-one n); small = omega arith }

  module _ {work : List ℕ} {base height : ℕ} where
    pub gives_room : Space work base height (results_at gives) → (gives ≡ 0 → ⊥) → Room work base height 1
    gives_room s n =
        let few : base + height + 1 ≤ most_operands = rw (names-one n) at s.few in
        record { room = s.room; few = few }

    pub gives-put : {work' : List ℕ} → Pushed work work' base height (height + 1) (operand_at_code (((gives - 1) % code_bound + 2) % word_bound) ∷ []) → (gives ≡ 0 → ⊥) → PutBack work work' base height (results_at gives)
    unfolding val_at_word
    gives-put p n = rw (names-one n) (record { pushed = rw (← known_kept {c = (gives - 1) % code_bound} (omega arith)) p })

    pub gives-not : gives ≡ 0 → PutBack work work base height (results_at gives)
    gives-not e = put-none work base height (names-none e)

-- both

module _ (codes : List ℕ) {list : Values} {back : Bool} {gives n g : ℕ} (a : BackLength list back n) (b : GivesLength gives g) where
  all_long : length (given_of codes list back gives) ≡ n + g
  unfolding given_of
  all_long = length-append (back_of codes list back) (results_at gives) ∙ rw (a.is codes, b.is)

  pub give_full : (work : List ℕ) (base height : ℕ) {most : ℕ} → most < base + (height + n + g) → most_operands ≤ most → GivenTo work work base height (given_of codes list back gives) None
  give_full work base height h limit =
      record {
        gave = λ k e. impossible cc;
        full = λ e. record { many = omega (arith, all_long); same = refl };
      }

  module _ {work : List ℕ} (l : Long work) {base height : ℕ} (h : base + (height + n + g) ≤ most_operands) where
    pub space_back : Space work base height (back_of codes list back)
    space_back = record { room = l.room; few = omega (arith, a.is codes) }

    module _ {work₁ : List ℕ} (p : PutBack work work₁ base height (back_of codes list back)) where
      pub space_gives : Space work₁ base (height + n) (results_at gives)
      space_gives = record { room = omega (arith, l.room, p.pushed.size); few = omega (arith, b.is) }

      pub give_all : {work₂ : List ℕ} → PutBack work₁ work₂ base (height + n) (results_at gives) → GivenTo work work₂ base height (given_of codes list back gives) (Some (height + n + g))
      unfolding given_of
      give_all {work₂} q =
          let first : Pushed work work₁ base height (height + n) (on_top (back_of codes list back)) = rw (a.is codes) at p.pushed in
          let second : Pushed work₁ work₂ base (height + n) (height + n + g) (on_top (results_at gives)) = rw b.is at q.pushed in
          let whole : Pushed work work₂ base height (height + n + g) (on_top (back_of codes list back ++ results_at gives)) = rw (on_top_append (back_of codes list back) (results_at gives)) (pushed_more (omega arith) first second) in
          let long = all_long in
          record {
            gave = λ k e.
                let same : height + n + g ≡ k = cc in
                rw (← same) (record { high = omega arith; few = h; pushed = whole });
            full = λ e. impossible cc;
          }

pub ruleset give_exits = (long_back, nothing_back, back_room, back_put, back_not, gives_none, gives_one, gives_room, gives-put, gives-not, give_full, space_back, space_gives, give_all)

-- Taking operands and putting them: the checker's functions and the relations say the same, along the list of what is wanted.
-- An instruction whose result depends on what it took takes exactly one operand, so that one is there, and ref.as_non_null's
-- is a reference or unknown.
use Prim.Native.Nat.{ℕ}
use mathlib.Core.Path.{◌≡◌, refl, sym, ◌∙◌, subst}
use mathlib.Core.Logic.{◌⊎◌, inl, inr}
use mathlib.Core.Bool.{Bool, true, false, cond, false≢true}
use mathlib.Core.List.{List, [], ◌∷◌}
use Rattle.scope.specs.Syntax.{Types, Heap, Val, num, ref, exact, defined, nullable, non_null}
use Rattle.scope.specs.BodyRules.{Context, Scope, Wanted, value, any_reference, Gives, values, it_non_null, its_descriptor, Plan, allowed}
use Rattle.scope.specs.Instructions.{Op}
use Rattle.scope.specs.Bodies.{Operand, known, unknown, unknown_reference, fits, fit, Taken, take_all, put}
use Rattle.scope.proofs.Truths.{decided}
use Rattle.facts_bodies.specs.Premises.{OperandFits, known_below, as_reference, Takes, takes_none, takes_top, takes_unknown, Puts, puts_values, puts_non_null, puts_of_unknown, puts_of_unknown_reference, puts_exact_descriptor, puts_descriptor}
use Rattle.facts_bodies.specs.Rules.{Rule, rule_unreachable, rule_nop, rule_return, rule_drop, rule_br, rule_br_if, rule_local_get, rule_local_set, rule_local_tee, rule_i32_const, rule_i64_const, rule_f32_const, rule_f64_const, rule_numeric, rule_ref_null, rule_ref_is_null, rule_ref_eq, rule_ref_as_non_null, rule_struct_new, rule_struct_new_default, rule_struct_get, rule_struct_set, rule_ref_test, rule_ref_cast, rule_br_on_cast, rule_br_on_cast_fail, rule_struct_new_desc, rule_struct_new_default_desc, rule_ref_get_desc, rule_ref_cast_desc_eq, rule_br_on_cast_desc_eq, rule_br_on_cast_desc_eq_fail}
use Rattle.facts_bodies.proofs.Ruled.{fault_is_not_allowed, same_allowed, fit_passed, first_allowed}
use Rattle.facts_bodies.proofs.Premises.{Ordered, number-not-below_reference, tested-fits, fits-tested, tested_meets, meets_tested}

-- taking

module _ (ts : Types) where
  -- of a taking that was allowed, under its own record
  as_taken : {dead : Bool} {ws : List Wanted} {os : List Operand} {t u : Taken}
      → Takes ts dead ws os t.taken t.left
      → allowed t ≡ allowed u
      → Takes ts dead ws os u.taken u.left
  as_taken {dead} {ws} {os} k e = subst (λ (t : Taken). Takes ts dead ws os t.taken t.left) (same_allowed e) k

  pub allowed_takes : (dead : Bool) (ws : List Wanted) (os : List Operand) {t : Taken}
      → take_all ts dead ws os ≡ allowed t
      → Takes ts dead ws os t.taken t.left
  unfolding take_all
  allowed_takes dead [] os e = as_taken takes_none e
  allowed_takes true (w ∷ ws) [] e =
      let (rest, later, same) = first_allowed (take_all ts true ws []) _ e in
      as_taken (takes_unknown (allowed_takes true ws [] later)) same
  allowed_takes false (w ∷ ws) [] e = absurd (fault_is_not_allowed e)
  allowed_takes dead (w ∷ ws) (o ∷ os) e =
      let (meets, more) = fit_passed ts o w _ e in
      let (rest, later, same) = first_allowed (take_all ts dead ws os) _ more in
      as_taken (takes_top (tested_meets ts o w meets) (allowed_takes dead ws os later)) same

module _ {ts : Types} (ordered : Ordered ts) where
  pub takes_allowed : {dead : Bool} {ws : List Wanted} {os taken left : List Operand}
      → Takes ts dead ws os taken left
      → take_all ts dead ws os ≡ allowed (record { taken = taken; left = left })
  unfolding take_all fit
  takes_allowed takes_none = refl
  takes_allowed (takes_top meets later) = rw (meets_tested ordered meets, takes_allowed later)
  takes_allowed (takes_unknown later) = rw (takes_allowed later)

-- putting

-- the result is of fixed types, or it is by the one operand that was taken
data Answers : List Wanted → Gives → Type 0 where
  by_itself : {ws : List Wanted} {vs : List Val} → Answers ws (values vs)
  by_reference : Answers (any_reference ∷ []) it_non_null
  by_described : {w : Wanted} {x y : ℕ} → Answers (w ∷ []) (its_descriptor x y)

rule_answers : {c : Context} {here : Scope} {o : Op} {p : Plan} → Rule c here o p → Answers p.wants p.gives
rule_answers rule_unreachable = by_itself
rule_answers rule_nop = by_itself
rule_answers rule_return = by_itself
rule_answers rule_drop = by_itself
rule_answers (rule_br label) = by_itself
rule_answers (rule_br_if label) = by_itself
rule_answers (rule_local_get local is_set) = by_itself
rule_answers (rule_local_set local) = by_itself
rule_answers (rule_local_tee local) = by_itself
rule_answers rule_i32_const = by_itself
rule_answers rule_i64_const = by_itself
rule_answers rule_f32_const = by_itself
rule_answers rule_f64_const = by_itself
rule_answers (rule_numeric among) = by_itself
rule_answers (rule_ref_null h) = by_itself
rule_answers rule_ref_is_null = by_itself
rule_answers rule_ref_eq = by_itself
rule_answers rule_ref_as_non_null = by_reference
rule_answers (rule_struct_new s d) = by_itself
rule_answers (rule_struct_new_default s d fs) = by_itself
rule_answers (rule_struct_get f) = by_itself
rule_answers (rule_struct_set f m) = by_itself
rule_answers (rule_ref_test h top) = by_itself
rule_answers (rule_ref_cast h top) = by_itself
rule_answers (rule_br_on_cast r b) = by_itself
rule_answers (rule_br_on_cast_fail r b) = by_itself
rule_answers (rule_struct_new_desc s d) = by_itself
rule_answers (rule_struct_new_default_desc s d fs) = by_itself
rule_answers (rule_ref_get_desc x d) = by_described
rule_answers (rule_ref_cast_desc_eq h d) = by_itself
rule_answers (rule_br_on_cast_desc_eq r b d) = by_itself
rule_answers (rule_br_on_cast_desc_eq_fail r b d) = by_itself

module _ {ts : Types} (ordered : Ordered ts) where
  not_fitting : {o : Operand} {w : Val} → fits ts o (value w) ≡ false → ¬ OperandFits ts o w
  not_fitting e f = false≢true (sym e ∙ fits-tested ordered f)

  put_reference : {null : Bool} {h : Heap} (o : Operand) → OperandFits ts o (ref null h) → Puts ts it_non_null (o ∷ []) (put ts it_non_null (o ∷ []))
  unfolding put
  put_reference (known (num n)) (known_below p) = absurd (number-not-below_reference ordered p)
  put_reference (known (ref n h)) f = puts_non_null
  put_reference unknown f = puts_of_unknown
  put_reference unknown_reference f = puts_of_unknown_reference

  put_descriptor : (x y : ℕ) (o : Operand) → Puts ts (its_descriptor x y) (o ∷ []) (put ts (its_descriptor x y) (o ∷ []))
  unfolding put
  put_descriptor x y o = go (fits ts o (value (nullable (exact x)))) refl
    where
      go : (b : Bool) → fits ts o (value (nullable (exact x))) ≡ b → Puts ts (its_descriptor x y) (o ∷ []) (known (non_null (cond b (exact y) (defined y))) ∷ [])
      go true e = puts_exact_descriptor (tested-fits ts o _ e)
      go false e = puts_descriptor (not_fitting e)

  put_puts : {dead : Bool} {ws : List Wanted} {g : Gives} {os taken left : List Operand}
      → Answers ws g
      → Takes ts dead ws os taken left
      → Puts ts g taken (put ts g taken)
  unfolding put
  put_puts by_itself t = puts_values
  put_puts by_reference (takes_top {o = o} (as_reference f) takes_none) = put_reference o f
  put_puts by_reference (takes_unknown takes_none) = puts_of_unknown
  put_puts (by_described {x = x} {y = y}) (takes_top {o = o} m takes_none) = put_descriptor x y o
  put_puts (by_described {x = x} {y = y}) (takes_unknown takes_none) = put_descriptor x y unknown

  pub rule_puts : {c : Context} {here : Scope} {o : Op} {p : Plan} {dead : Bool} {os taken left : List Operand}
      → Rule c here o p
      → Takes ts dead p.wants os taken left
      → Puts ts p.gives taken (put ts p.gives taken)
  rule_puts r t = put_puts (rule_answers r) t

  not-below : (o : Operand) (w : Val) → ¬ OperandFits ts o w → fits ts o (value w) ≡ false
  not-below o w n = go (decided (fits ts o (value w)))
    where
      go : (fits ts o (value w) ≡ true) ⊎ (fits ts o (value w) ≡ false) → fits ts o (value w) ≡ false
      go (inl e) = absurd (n (tested-fits ts o w e))
      go (inr e) = e

  pub puts_put : {g : Gives} {taken given : List Operand} → Puts ts g taken given → put ts g taken ≡ given
  unfolding put
  puts_put puts_values = refl
  puts_put puts_non_null = refl
  puts_put puts_of_unknown = refl
  puts_put puts_of_unknown_reference = refl
  puts_put (puts_exact_descriptor f) = rw (fits-tested ordered f)
  puts_put (puts_descriptor {o = o} n) = rw (not-below o _ n)

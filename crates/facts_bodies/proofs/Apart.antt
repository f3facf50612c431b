-- The checker's functions are equal to the relations of specs/Apart.antt: each function's value stands in its relation, and it
-- is the only one that does.
use Prim.Native.Nat.{ℕ, zero, suc, ◌+◌}
use mathlib.Core.Path.{◌≡◌, refl, sym, ◌∙◌, ap, subst}
use mathlib.Core.Bool.{Bool, true, false, not, ◌&&◌}
use mathlib.Core.Option.{Option, none, some}
use mathlib.Core.List.{List, [], ◌∷◌, ◌++◌, map, reverse, reverse_aux}
use lib.ListN.{length, set}
use Rattle.scope.specs.Lists.{sum}
use Rattle.scope.specs.Abstract.{Abstract, NOFUNC, NOEXTERN, NONE, FUNC, EXTERN, ANY, EQ, I31, STRUCT, ARRAY, row}
use Rattle.scope.specs.Syntax.{Heap, abstract, defined, exact, Val, num, ref, nullable, Types}
use Rattle.scope.specs.Order.{kind_of, HeapOrder, heaps, abstract_below, heap_below, val_below}
use Rattle.scope.specs.Instructions.{Cast}
use Rattle.scope.specs.BodyRules.{Context, Scope, Wanted, value, from_top, has_default, top_of, rest_of}
use Rattle.scope.specs.Bodies.{Operand, known, on_top, Frame, of_block, of_loop, label_of, outer_of, State, scope_of, operands_in, marked, Function, start_state}
use Rattle.scope.proofs.TenRows.{row_kept, pair-kept}
use Rattle.scope.proofs.Order.{tested-order}
use Rattle.facts_bodies.specs.Premises.{Default, zero_default, null_default}
use Rattle.facts_bodies.specs.Apart.{IsTop, any_is_top, func_is_top, extern_is_top, TopOf, top_of_lem, Rest, rest_is_source, rest_not_null, Labels, own_label, block_label, loop_label, Sees, sees, SetAtFirst, none_set, parameter_set, default_set, default_missing, Starts, starts, Around, around_none, around_block, around_loop, AllOperands, all_operands_lem, Wants, wants_none, wants_last, Lie, none_lie, last_lies, Marks, marks_none, marks_this, marks_later, marks_nothing}
use Rattle.facts_bodies.proofs.Premises.{Ordered}

-- a hierarchy's top

row_top : (a : Abstract) → IsTop (row a).top
row_top NOFUNC = func_is_top
row_top NOEXTERN = extern_is_top
row_top NONE = any_is_top
row_top FUNC = func_is_top
row_top EXTERN = extern_is_top
row_top ANY = any_is_top
row_top EQ = any_is_top
row_top I31 = any_is_top
row_top STRUCT = any_is_top
row_top ARRAY = any_is_top

top_itself : {t : Abstract} → IsTop t → (row t).top ≡ t
top_itself any_is_top = refl
top_itself func_is_top = refl
top_itself extern_is_top = refl

pub top_stands : (ts : Types) (h : Heap) → TopOf ts h (top_of ts h)
unfolding heap_below
top_stands ts (abstract a) = top_of_lem (row_top a) (tested-order ts (abstract a) (abstract (row a).top) (row_kept a).below_top)
top_stands ts (defined x) = top_of_lem (row_top (kind_of (ts x).form)) (tested-order ts (defined x) (abstract (row (kind_of (ts x).form)).top) (row_kept (kind_of (ts x).form)).below_top)
top_stands ts (exact x) = top_of_lem (row_top (kind_of (ts x).form)) (tested-order ts (exact x) (abstract (row (kind_of (ts x).form)).top) (row_kept (kind_of (ts x).form)).below_top)

one_top_lem : (a : Abstract) {t : Abstract} → IsTop t → abstract_below a t ≡ true → (row a).top ≡ t
one_top_lem a {t} top e = (pair-kept a t).one_top e ∙ top_itself top

module _ {ts : Types} (ordered : Ordered ts) where
  below_top_lem : {h : Heap} {t : Abstract} → HeapOrder ts h (abstract t) → heap_below ts h (abstract t) ≡ true
  unfolding val_below
  below_top_lem {h} {t} p = ordered.tested (nullable h) (nullable (abstract t)) (heaps p)

  pub only_top : (h : Heap) {t : Abstract} → TopOf ts h t → top_of ts h ≡ t
  unfolding heap_below
  only_top (abstract a) (top_of_lem top p) = one_top_lem a top (below_top_lem p)
  only_top (defined x) (top_of_lem top p) = one_top_lem (kind_of (ts x).form) top (below_top_lem p)
  only_top (exact x) (top_of_lem top p) = one_top_lem (kind_of (ts x).form) top (below_top_lem p)

-- a cast's rest

pub rest_stands : (k : Cast) → Rest k (rest_of k)
rest_stands k = go k.target_null k.source_null refl refl
  where
    go : (t n : Bool) → k.target_null ≡ t → k.source_null ≡ n → Rest k (ref (n && not t) k.source)
    go true true e f = rest_not_null e
    go true false e f = rest_not_null e
    go false true e f = rw (← f) (rest_is_source e)
    go false false e f = rw (← f) (rest_is_source e)

pub only_rest : (k : Cast) {v : Val} → Rest k v → rest_of k ≡ v
only_rest k (rest_is_source e) = rw e (go k.source_null)
  where
    go : (n : Bool) → ref (n && true) k.source ≡ ref n k.source
    go true = refl
    go false = refl
only_rest k (rest_not_null e) = rw e (go k.source_null)
  where
    go : (n : Bool) → ref (n && false) k.source ≡ ref false k.source
    go true = refl
    go false = refl

-- labels

labels_stand : (results : List Val) (fs : List Frame) → Labels results fs (map label_of fs ++ results ∷ [])
labels_stand results [] = own_label
labels_stand results (of_block rs os dead is_set ∷ fs) = block_label (labels_stand results fs)
labels_stand results (of_loop rs os dead is_set ∷ fs) = loop_label (labels_stand results fs)

only_labels : {results : List Val} {fs : List Frame} {ls : List (List Val)} → Labels results fs ls → map label_of fs ++ results ∷ [] ≡ ls
only_labels own_label = refl
only_labels (block_label more) = rw (only_labels more)
only_labels (loop_label more) = rw (only_labels more)

pub scope_stands : (c : Context) (st : State) → Sees c st (scope_of c st)
scope_stands c st = sees (labels_stand c.results st.frames)

pub only_scope : {c : Context} {st : State} {here : Scope} → Sees c st here → scope_of c st ≡ here
only_scope (sees labels) = rw (only_labels labels)

-- what is set at first

not_default : {h : Heap} → ¬ Default (ref false h)
not_default d = elim d [ ]

locals_stand : (ls : List Val) → SetAtFirst [] ls (map has_default ls)
locals_stand [] = none_set
locals_stand (num n ∷ ls) = default_set zero_default (locals_stand ls)
locals_stand (ref true h ∷ ls) = default_set null_default (locals_stand ls)
locals_stand (ref false h ∷ ls) = default_missing not_default (locals_stand ls)

sets_stand : (ps ls : List Val) → SetAtFirst ps ls (map (λ v. true) ps ++ map has_default ls)
sets_stand [] ls = locals_stand ls
sets_stand (p ∷ ps) ls = parameter_set (sets_stand ps ls)

has_it : {v : Val} → Default v → has_default v ≡ true
has_it zero_default = refl
has_it null_default = refl

has_not : (v : Val) → ¬ Default v → has_default v ≡ false
has_not (num n) none_there_lem = absurd (none_there_lem zero_default)
has_not (ref true h) none_there_lem = absurd (none_there_lem null_default)
has_not (ref false h) none_there_lem = refl

only_sets : {ps ls : List Val} {bs : List Bool} → SetAtFirst ps ls bs → map (λ v. true) ps ++ map has_default ls ≡ bs
only_sets none_set = refl
only_sets (parameter_set more) = rw (only_sets more)
only_sets (default_set d more) = rw (has_it d, only_sets more)
only_sets (default_missing {v = v} none_there_lem more) = rw (has_not v none_there_lem, only_sets more)

pub start_stands : (f : Function) (ls : List Val) → Starts f ls (start_state f ls)
start_stands f ls = starts (sets_stand f.parameters ls)

pub only_start : {f : Function} {ls : List Val} {st : State} → Starts f ls st → start_state f ls ≡ st
only_start (starts sets) = rw (only_sets sets)

-- operands in all frames

around_stands : (fs : List Frame) → Around fs (sum (map (λ f. length (outer_of f)) fs))
around_stands [] = around_none
around_stands (of_block rs os dead is_set ∷ fs) = around_block (around_stands fs)
around_stands (of_loop rs os dead is_set ∷ fs) = around_loop (around_stands fs)

only_around : {fs : List Frame} {n : ℕ} → Around fs n → sum (map (λ f. length (outer_of f)) fs) ≡ n
only_around around_none = refl
only_around (around_block more) = rw (only_around more)
only_around (around_loop more) = rw (only_around more)

pub operands_stand : (st : State) → AllOperands st (operands_in st)
operands_stand st = all_operands_lem (around_stands st.frames)

pub only_operands : {st : State} {n : ℕ} → AllOperands st n → operands_in st ≡ n
only_operands {st} (all_operands_lem around) = rw (only_around around)

-- values on the stack

module _ {A : Type 0} where
  append-append : (xs ys zs : List A) → (xs ++ ys) ++ zs ≡ xs ++ (ys ++ zs)
  append-append [] ys zs = refl
  append-append (x ∷ xs) ys zs = rw (append-append xs ys zs)

  aux_last : (xs : List A) (x : A) (so : List A) → reverse_aux (xs ++ x ∷ []) so ≡ x ∷ reverse_aux xs so
  aux_last [] x so = refl
  aux_last (y ∷ xs) x so = aux_last xs x (y ∷ so)

  reverse_last : (xs : List A) (x : A) → reverse (xs ++ x ∷ []) ≡ x ∷ reverse xs
  reverse_last xs x = aux_last xs x []

  aux_append : (xs so : List A) → reverse_aux xs so ≡ reverse xs ++ so
  aux_append [] so = refl
  aux_append (x ∷ xs) so = aux_append xs (x ∷ so) ∙ sym (rw (aux_append xs (x ∷ [])) (append-append (reverse xs) (x ∷ []) so))

  reverse-first : (x : A) (xs : List A) → reverse (x ∷ xs) ≡ reverse xs ++ x ∷ []
  reverse-first x xs = aux_append xs (x ∷ [])

  reverse_twice : (xs : List A) → reverse (reverse xs) ≡ xs
  reverse_twice [] = refl
  reverse_twice (x ∷ xs) = rw (reverse-first x xs, reverse_last (reverse xs) x, reverse_twice xs)

wants_reversed : (vs : List Val) → Wants (reverse vs) (map value vs)
wants_reversed [] = wants_none
wants_reversed (v ∷ vs) = rw (reverse-first v vs) (wants_last (wants_reversed vs))

pub wants_stand : (vs : List Val) → Wants vs (from_top vs)
wants_stand vs = subst (λ (us : List Val). Wants us (from_top vs)) (reverse_twice vs) (wants_reversed (reverse vs))

pub only_wants : {vs : List Val} {ws : List Wanted} → Wants vs ws → from_top vs ≡ ws
only_wants wants_none = refl
only_wants (wants_last {vs = vs} {v = v} more) = rw (reverse_last vs v, only_wants more)

lie_reversed : (vs : List Val) → Lie (reverse vs) (map known vs)
lie_reversed [] = none_lie
lie_reversed (v ∷ vs) = rw (reverse-first v vs) (last_lies (lie_reversed vs))

pub values_lie : (vs : List Val) → Lie vs (on_top vs)
values_lie vs = subst (λ (us : List Val). Lie us (on_top vs)) (reverse_twice vs) (lie_reversed (reverse vs))

pub only_lie : {vs : List Val} {os : List Operand} → Lie vs os → on_top vs ≡ os
only_lie none_lie = refl
only_lie (last_lies {vs = vs} {v = v} more) = rw (reverse_last vs v, only_lie more)

-- locals that are set

set_stands : (bs : List Bool) (n : ℕ) → Marks (some n) bs (set bs n true)
set_stands [] n = marks_nothing
set_stands (b ∷ bs) zero = marks_this
set_stands (b ∷ bs) (suc n) = marks_later (set_stands bs n)

pub mark_stands : (o : Option ℕ) (bs : List Bool) → Marks o bs (marked o bs)
mark_stands none bs = marks_none
mark_stands (some n) bs = set_stands bs n

pub only_mark : {o : Option ℕ} {bs more : List Bool} → Marks o bs more → marked o bs ≡ more
only_mark marks_none = refl
only_mark marks_this = refl
only_mark (marks_later {b = b} m) = ap (λ (cs : List Bool). b ∷ cs) (only_mark m)
only_mark marks_nothing = refl

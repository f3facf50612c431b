-- The fixed table of ten says what document 01's sentences say: each code, each type directly above, each top and bottom. By
-- the ten cases; the other way round by what stands in a row.
use Prim.Native.Nat.{ℕ, suc, zero}
use mathlib.Core.Path.{◌≡◌, refl, sym, subst}
use mathlib.Core.Logic.{◌↔◌, ◌⊎◌, inl, inr}
use mathlib.Core.Bool.{true}
use mathlib.Core.List.{Memᴰ}
use Rattle.scope.specs.Lists.{some_of}
use Rattle.scope.specs.Abstract.{Abstract, NOFUNC, NOEXTERN, NONE, FUNC, EXTERN, ANY, EQ, I31, STRUCT, ARRAY, row, same_abstract, directly_above}
use Rattle.scope.specs.Order.{up_table, abstract_below}
use Rattle.scope.proofs.Truths.{from_some, from_either}
use Rattle.scope.proofs.TenRows.{same_equal, row_kept, pair-kept, abstract_transitive}
use Rattle.facts_types.specs.TenTypes.{CodeOf, code_73, code_72, code_71, code_70, code_6F, code_6E, code_6D, code_6C, code_6B, code_6A, Listed, none_below_i31, none_below_struct, none_below_array, i31_below_eq, struct_below_eq, array_below_eq, eq_below_any, nofunc_below_func, noextern_below_extern, AbstractOrder, as_listed, same_abstract_lem, by_way_of, Hierarchy, of_any, of_func, of_extern}

pub row-code : (a : Abstract) → CodeOf (row a).code a
row-code NOFUNC = code_73
row-code NOEXTERN = code_72
row-code NONE = code_71
row-code FUNC = code_70
row-code EXTERN = code_6F
row-code ANY = code_6E
row-code EQ = code_6D
row-code I31 = code_6C
row-code STRUCT = code_6B
row-code ARRAY = code_6A

pub one_code : {b : ℕ} {a : Abstract} → CodeOf b a → (row a).code ≡ b
one_code code_73 = refl
one_code code_72 = refl
one_code code_71 = refl
one_code code_70 = refl
one_code code_6F = refl
one_code code_6E = refl
one_code code_6D = refl
one_code code_6C = refl
one_code code_6B = refl
one_code code_6A = refl

pub row_hierarchy : (a : Abstract) → Hierarchy (row a).bottom (row a).top
row_hierarchy NOFUNC = of_func
row_hierarchy NOEXTERN = of_extern
row_hierarchy NONE = of_any
row_hierarchy FUNC = of_func
row_hierarchy EXTERN = of_extern
row_hierarchy ANY = of_any
row_hierarchy EQ = of_any
row_hierarchy I31 = of_any
row_hierarchy STRUCT = of_any
row_hierarchy ARRAY = of_any

-- directly above

above_listed : (a : Abstract) {b : Abstract} → Memᴰ b (row a).above → Listed a b
above_listed NOFUNC (Memᴰ.head e) = rw e nofunc_below_func
above_listed NOFUNC (Memᴰ.tail x) = elim x [ ]
above_listed NOEXTERN (Memᴰ.head e) = rw e noextern_below_extern
above_listed NOEXTERN (Memᴰ.tail x) = elim x [ ]
above_listed NONE (Memᴰ.head e) = rw e none_below_i31
above_listed NONE (Memᴰ.tail (Memᴰ.head e)) = rw e none_below_struct
above_listed NONE (Memᴰ.tail (Memᴰ.tail (Memᴰ.head e))) = rw e none_below_array
above_listed NONE (Memᴰ.tail (Memᴰ.tail (Memᴰ.tail x))) = elim x [ ]
above_listed FUNC x = elim x [ ]
above_listed EXTERN x = elim x [ ]
above_listed ANY x = elim x [ ]
above_listed EQ (Memᴰ.head e) = rw e eq_below_any
above_listed EQ (Memᴰ.tail x) = elim x [ ]
above_listed I31 (Memᴰ.head e) = rw e i31_below_eq
above_listed I31 (Memᴰ.tail x) = elim x [ ]
above_listed STRUCT (Memᴰ.head e) = rw e struct_below_eq
above_listed STRUCT (Memᴰ.tail x) = elim x [ ]
above_listed ARRAY (Memᴰ.head e) = rw e array_below_eq
above_listed ARRAY (Memᴰ.tail x) = elim x [ ]

pub directly_listed : (a b : Abstract) → directly_above a b ≡ true → Listed a b
directly_listed a b e =
    let (c, among, same) = from_some (same_abstract b) (row a).above e in
    above_listed a (subst (λ (d : Abstract). Memᴰ d (row a).above) (sym (same_equal b c same)) among)

pub listed_directly : {a b : Abstract} → Listed a b → directly_above a b ≡ true
listed_directly none_below_i31 = refl
listed_directly none_below_struct = refl
listed_directly none_below_array = refl
listed_directly i31_below_eq = refl
listed_directly struct_below_eq = refl
listed_directly array_below_eq = refl
listed_directly eq_below_any = refl
listed_directly nofunc_below_func = refl
listed_directly noextern_below_extern = refl

pub rule_6 : (a b : Abstract) → (directly_above a b ≡ true) ↔ Listed a b
rule_6 a b = (directly_listed a b, listed_directly)

-- the order of the ten

climb_order : (steps : ℕ) (a b : Abstract) → up_table steps a b ≡ true → AbstractOrder a b
unfolding up_table
climb_order zero a b e = rw (same_equal a b e) same_abstract_lem
climb_order (suc steps) a b e = go (from_either (same_abstract a b) _ e) (λ c. climb_order steps c b)
  where
    go : (same_abstract a b ≡ true) ⊎ (some_of (λ c. up_table steps c b) (row a).above ≡ true) → ((c : Abstract) → up_table steps c b ≡ true → AbstractOrder c b) → AbstractOrder a b
    go (inl same) later = rw (same_equal a b same) same_abstract_lem
    go (inr f) later =
        let (c, among, more) = from_some (λ c. up_table steps c b) (row a).above f in
        by_way_of (as_listed (above_listed a among)) (later c more)

pub below-order : (a b : Abstract) → abstract_below a b ≡ true → AbstractOrder a b
below-order a b e = climb_order 3 a b e

pub order_below : {a b : Abstract} → AbstractOrder a b → abstract_below a b ≡ true
order_below {a} {b} (as_listed l) = (pair-kept a b).listed_below (listed_directly l)
order_below {a} same_abstract_lem = (row_kept a).below_itself
order_below {a} {b = c} (by_way_of {b = b} p q) = abstract_transitive a b c (order_below p) (order_below q)

-- Each way out of a look at a definition's numbers: a list of numbers is in reach when both of its parts are, and each part
-- is what one question answers.
use Prim.Native.Nat.{ℕ, ◌/◌}
use mathlib.Core.Path.{◌≡◌, refl, sym, ap, ◌∙◌}
use mathlib.Core.Bool.{Bool, true, false, not, ◌&&◌}
use mathlib.Core.Option.{Option}
use mathlib.Core.List.{List, [], ◌∷◌, ◌++◌}
use Rattle.std.proofs.Math.Bool.{and-true, and_assoc}
use borrow.Author.Tests.{not-true, not-false, lt-ltb, le-ltb}
use Prim.Native.Nat.{◌<◌, ◌≤◌}
use lib.Dec.{ltb}
use Rattle.scope.specs.Told.{Maybe}
use Rattle.std.specs.Prelude.{None, Some}
use Rattle.scope.specs.Lists.{as_list}
use Rattle.scope.specs.Syntax.{Heap, Val, Form, Types}
use Rattle.scope.specs.TypeRules.{heap_names, val_names, form_names, names, in_reach}
use Rattle.type_table.specs.View.{heap_at_code, val_at_code, field_at_code}
use Rattle.type_table.specs.declared.Supers.{Supers}
use Rattle.type_table.specs.declared.Supers
use Rattle.type_table.specs.declared.Shape.{Shape}
use Rattle.type_table.specs.declared.Shape
use Rattle.type_table.specs.declared.HeapKind.{HeapKind}
use Rattle.type_table.specs.declared.HeapKind
use Rattle.type_table.specs.declared.ValKind.{ValKind}
use Rattle.type_table.specs.declared.ValKind
use Rattle.type_table.specs.Answers.{link_is, heap_is, val_is, supers_list, shape_form}
use Rattle.type_table.proofs.Laws.{link_read, is_abstract, is_defined, is_exact, is_number, is_ref}
use Rattle.type_reach.specs.Names.{all_below, link_below, code_names, codes_names}

-- lists of numbers

and_regroup : (a b c d : Bool) → (((a && b) && c) && d) ≡ (a && ((b && c) && d))
and_regroup true b c d = refl
and_regroup false b c d = refl

pub below_none : (reach : ℕ) → true ≡ all_below reach []
unfolding all_below
below_none reach = refl

pub below_one : (reach x : ℕ) → ltb x reach ≡ all_below reach (x ∷ [])
unfolding all_below
below_one reach x = sym (and-true (ltb x reach))

pub below-append : (reach : ℕ) (xs ys : List ℕ) → all_below reach (xs ++ ys) ≡ (all_below reach xs && all_below reach ys)
unfolding all_below
below-append reach [] ys = refl
below-append reach (x ∷ xs) ys =
    ap (λ (t : Bool). ltb x reach && t) (below-append reach xs ys) ∙ sym (and_assoc (ltb x reach) (all_below reach xs) (all_below reach ys))

-- a first part that is out of reach, and one that is in reach

pub part_out : (r s : Bool) → not r ≡ true → false ≡ (r && s)
part_out r s t = sym (ap (λ (b : Bool). b && s) (not-true r t))

pub part_in : (r s : Bool) → not r ≡ false → s ≡ (r && s)
part_in r s t = sym (ap (λ (b : Bool). b && s) (not-false r t))

-- heap and value types

module _ (reach : ℕ) (h : Heap) {u : HeapKind} (e : u ≡ heap_is h) where
  pub abstract_names-none : {k : ℕ} → u ≡ HeapKind.TheVariants.Abstract k → true ≡ all_below reach (heap_names h)
  abstract_names-none q = rw (is_abstract h e q) (below_none reach)

  pub defined-names-one : {x : ℕ} → u ≡ HeapKind.TheVariants.Defined x → ltb x reach ≡ all_below reach (heap_names h)
  defined-names-one {x} q = rw (is_defined h e q) (below_one reach x)

  pub exact_names-one : {x : ℕ} → u ≡ HeapKind.TheVariants.Exact x → ltb x reach ≡ all_below reach (heap_names h)
  exact_names-one {x} q = rw (is_exact h e q) (below_one reach x)

module _ (reach : ℕ) (v : Val) {u : ValKind} (e : u ≡ val_is v) where
  pub number-names-none : {c : ℕ} → u ≡ ValKind.TheVariants.Number c → true ≡ all_below reach (val_names v)
  number-names-none q = rw (is_number v e q).1 (below_none reach)

  pub ref_names-heap : {n : Bool} {h : ℕ} {r : Bool} → u ≡ ValKind.TheVariants.Ref n h → r ≡ all_below reach (heap_names (heap_at_code h)) → r ≡ all_below reach (val_names v)
  ref_names-heap q p = rw (is_ref v e q) p

module _ (fields : Bool) (reach c : ℕ) {r : Bool} where
  pub field_names_lem : r ≡ all_below reach (val_names (val_at_code (c / 2))) → fields ≡ true → r ≡ all_below reach (code_names fields c)
  unfolding code_names field_at_code
  field_names_lem p t = rw t p

  pub value_names : r ≡ all_below reach (val_names (val_at_code c)) → fields ≡ false → r ≡ all_below reach (code_names fields c)
  unfolding code_names
  value_names p t = rw t p

pub ruleset type_exits = (abstract_names-none, defined-names-one, exact_names-one, number-names-none, ref_names-heap, field_names_lem, value_names)

-- forms

module _ (reach : ℕ) (codes : List ℕ) (f : Form) {u : Shape} (e : f ≡ shape_form codes u) where
  pub struct_names : {i n : ℕ} {r : Bool} → u ≡ Shape.TheVariants.Struct i n → r ≡ all_below reach (codes_names true codes i n) → r ≡ all_below reach (form_names f)
  unfolding codes_names
  struct_names q p = rw (e, q) p

  module _ {i n k m : ℕ} (q : u ≡ Shape.TheVariants.Func i n k m) {r : Bool} (p : r ≡ all_below reach (codes_names false codes i n)) where
    func_names : all_below reach (form_names f) ≡ (r && all_below reach (codes_names false codes k m))
    unfolding codes_names
    func_names = rw (e, q, p) (below-append reach (codes_names false codes i n) (codes_names false codes k m))

    pub parameters_out : not r ≡ true → false ≡ all_below reach (form_names f)
    parameters_out t = part_out r _ t ∙ sym func_names

    pub results_in : {s : Bool} → not r ≡ false → s ≡ all_below reach (codes_names false codes k m) → s ≡ all_below reach (form_names f)
    results_in t d = d ∙ part_in r _ t ∙ sym func_names

pub ruleset form_exits = (struct_names, parameters_out, results_in)

-- supertypes

module _ (reach : ℕ) (l : List ℕ) {u : Supers} (e : l ≡ supers_list u) where
  pub no_supers : u ≡ Supers.TheVariants.Nothing → true ≡ all_below reach l
  no_supers q = rw (e, q) (below_none reach)

  pub one_super_lem : {p : ℕ} → u ≡ Supers.TheVariants.One p → ltb p reach ≡ all_below reach l
  one_super_lem {p} q = rw (e, q) (below_one reach p)

  pub two_supers_in : {p s : ℕ} → u ≡ Supers.TheVariants.Two p s → p < reach → ltb s reach ≡ all_below reach l
  unfolding all_below
  two_supers_in {p} {s} q h = rw (e, q, lt-ltb p reach h) (sym (and-true (ltb s reach)))

  pub two_supers_out : {p s : ℕ} → u ≡ Supers.TheVariants.Two p s → reach ≤ p → false ≡ all_below reach l
  unfolding all_below
  two_supers_out {p} {s} q h = rw (e, q, le-ltb p reach h)

pub ruleset super_exits = (no_supers, one_super_lem, two_supers_in, two_supers_out)

-- clauses

pub link_none : (reach : ℕ) (l : Maybe ℕ) → l ≡ None → true ≡ link_below reach l
unfolding link_below
link_none reach l q = rw q (below_none reach)

pub link_some : (reach : ℕ) (l : Maybe ℕ) {x : ℕ} → l ≡ Some x → ltb x reach ≡ link_below reach l
unfolding link_below
link_some reach l {x} q = rw q (below_one reach x)

pub ruleset link_exits = (link_none, link_some)

link_in : (reach : ℕ) (o : Option ℕ) {l : Maybe ℕ} {r : Bool} → l ≡ link_is o → r ≡ link_below reach l → r ≡ all_below reach (as_list o)
unfolding link_below
link_in reach o e p = p ∙ ap (λ (u : Option ℕ). all_below reach (as_list u)) (link_read o e)

module _ (reach : ℕ) (o u : Option ℕ) {l : Maybe ℕ} {r : Bool} (e : l ≡ link_is o) (p : r ≡ link_below reach l) where
  pub first_clause_out : not r ≡ true → false ≡ (all_below reach (as_list o) && all_below reach (as_list u))
  first_clause_out t = part_out r _ t ∙ ap (λ (b : Bool). b && all_below reach (as_list u)) (link_in reach o e p)

  pub clauses_in : {m : Maybe ℕ} {s : Bool} → not r ≡ false → m ≡ link_is u → s ≡ link_below reach m → s ≡ (all_below reach (as_list o) && all_below reach (as_list u))
  clauses_in {m} {s} t f q =
      link_in reach u f q ∙ part_in r _ t ∙ ap (λ (b : Bool). b && all_below reach (as_list u)) (link_in reach o e p)

pub ruleset clause_exits = (first_clause_out, clauses_in)

-- the whole definition

in_three : (ts : Types) (x : ℕ) → in_reach ts x
    ≡ (all_below (ts x).reach (ts x).supers
    && ((all_below (ts x).reach (as_list (ts x).describes) && all_below (ts x).reach (as_list (ts x).descriptor))
    && all_below (ts x).reach (form_names (ts x).form)))
unfolding in_reach names all_below
in_three ts x =
    below-append _ ((ts x).supers ++ as_list (ts x).describes ++ as_list (ts x).descriptor) (form_names (ts x).form)
    ∙ ap (λ (t : Bool). t && all_below (ts x).reach (form_names (ts x).form))
    (below-append _ ((ts x).supers ++ as_list (ts x).describes) (as_list (ts x).descriptor)
    ∙ ap (λ (t : Bool). t && all_below (ts x).reach (as_list (ts x).descriptor)) (below-append _ (ts x).supers (as_list (ts x).describes)))
    ∙ and_regroup (all_below (ts x).reach (ts x).supers) _ _ _

module _ (ts : Types) (x : ℕ) {reach : ℕ} (e : reach ≡ (ts x).reach) {r : Bool} (p : r ≡ all_below reach (ts x).supers) where
  in_parts : in_reach ts x ≡ (r && ((all_below reach (as_list (ts x).describes) && all_below reach (as_list (ts x).descriptor)) && all_below reach (form_names (ts x).form)))
  in_parts = rw (p, e) (in_three ts x)

  pub supers_out : not r ≡ true → false ≡ in_reach ts x
  supers_out t = part_out r _ t ∙ sym in_parts

  module _ {s : Bool} (t : not r ≡ false) (q : s ≡ (all_below reach (as_list (ts x).describes) && all_below reach (as_list (ts x).descriptor))) where
    in_rest : in_reach ts x ≡ (s && all_below reach (form_names (ts x).form))
    in_rest = in_parts ∙ sym (part_in r _ t) ∙ ap (λ (b : Bool). b && all_below reach (form_names (ts x).form)) (sym q)

    pub clauses_out : not s ≡ true → false ≡ in_reach ts x
    clauses_out u = part_out s _ u ∙ sym in_rest

    pub form_decides : {a : Bool} → not s ≡ false → a ≡ all_below reach (form_names (ts x).form) → a ≡ in_reach ts x
    form_decides u d = d ∙ part_in s _ u ∙ sym in_rest

pub ruleset reach_exits = (supers_out, clauses_out, form_decides)

-- Type rules 1 to 5, each a definition of its own, over the types by number. Rule 6 is specs/Order.antt.
use Rattle.std.specs.Prelude.{ℕ, zero, suc, Bool, true, false, cond, ◌&&◌, ◌||◌, List, [], ◌∷◌, ◌++◌, map, ltb}
use Rattle.std.specs.Bool.{beq}
use Rattle.std.proofs.Math.Option.{Option, none, some}
use Rattle.scope.specs.Reading.{given}
use Rattle.scope.specs.Lists.{every, pairwise, prefixwise, joined, as_list, is_none}
use Rattle.scope.specs.Syntax.{Heap, abstract, defined, exact, Val, num, ref, Field, Form, struct, func, Definition, Types, super_of}
use Rattle.scope.specs.Order.{same_type, val_below, same_val}

-- Rule 1: "A number may name any type up to the end of its own group."

abbrev pub heap_names : Heap → List ℕ
heap_names (abstract a) = []
heap_names (defined x) = x ∷ []
heap_names (exact x) = x ∷ []

abbrev pub val_names : Val → List ℕ
val_names (num n) = []
val_names (ref n h) = heap_names h

abbrev pub field_names : Field → List ℕ
field_names f = val_names f.holds

abbrev pub form_names : Form → List ℕ
form_names (struct fs) = joined (map field_names fs)
form_names (func ps rs) = joined (map val_names ps) ++ joined (map val_names rs)

-- every number of a definition
unfoldable pub names : Definition → List ℕ
names d = d.supers ++ as_list d.describes ++ as_list d.descriptor ++ form_names d.form

unfoldable pub in_reach : Types → ℕ → Bool
in_reach ts x = every (λ y. ltb y (ts x).reach) (names (ts x))

-- Rule 1: "At most one supertype; it is earlier and open."
abbrev pub one_super : Types → ℕ → List ℕ → Bool
one_super ts x [] = true
one_super ts x (p ∷ []) = ltb p x && (ts p).is_open
one_super ts x (p ∷ q ∷ more) = false

unfoldable pub super_earlier_and_open : Types → ℕ → Bool
super_earlier_and_open ts x = one_super ts x (ts x).supers

-- Sizes: 63 steps up a supertype chain
unfoldable pub short_chain : ℕ → Types → ℕ → Bool
short_chain zero ts x = is_none (super_of (ts x))
short_chain (suc steps) ts x = given (super_of (ts x)) true (λ p. short_chain steps ts p)

-- Rule 2: "Forms are equal. A struct matches its supertype with at least as many fields: a fixed field's type is a
-- subtype, a mutable one's is identical, mutability equal. Functions: same counts, parameters against, results along."
abbrev pub field_matches : Types → Field → Field → Bool
field_matches ts f g =
    beq f.mutable g.mutable && cond f.mutable (same_val f.holds g.holds) (val_below ts f.holds g.holds)

unfoldable pub form_matches : Types → Form → Form → Bool
form_matches ts (struct fs) (struct gs) = prefixwise (field_matches ts) fs gs
form_matches ts (struct fs) (func qs ss) = false
form_matches ts (func ps rs) (struct gs) = false
form_matches ts (func ps rs) (func qs ss) = pairwise (λ p q. val_below ts q p) ps qs && pairwise (val_below ts) rs ss

unfoldable pub matches_super : Types → ℕ → Bool
matches_super ts x = given (super_of (ts x)) true (λ p. form_matches ts (ts x).form (ts p).form)

-- Rule 3: "Clauses stand on structs only."
abbrev pub is_struct : Form → Bool
is_struct (struct fs) = true
is_struct (func ps rs) = false

unfoldable pub clauses_on_struct : Types → ℕ → Bool
clauses_on_struct ts x = is_struct (ts x).form || (is_none (ts x).describes && is_none (ts x).descriptor)

-- Rule 3: "Describes names an earlier type."
unfoldable pub describes_earlier : Types → ℕ → Bool
describes_earlier ts x = given (ts x).describes true (λ y. ltb y x)

-- is this very type the one that is named?
abbrev pub is_the : Option ℕ → ℕ → Bool
is_the o y = given o false (λ z. same_type z y)

-- Rule 3: "If x has descriptor y then y describes x, and the reverse."
unfoldable pub clauses_agree : Types → ℕ → Bool
clauses_agree ts x =
    given (ts x).descriptor true (λ y. is_the (ts y).describes x) && given (ts x).describes true (λ y. is_the (ts y).descriptor x)

-- Rule 4: "If the supertype has descriptor y, the subtype has a descriptor whose supertype is y. A supertype without one
-- allows either."
unfoldable pub descriptor_follows : Types → ℕ → Bool
descriptor_follows ts x =
    given (super_of (ts x)) true (λ p.
    given (ts p).descriptor true (λ y.
    given (ts x).descriptor false (λ d. is_the (super_of (ts d)) y)))

-- Rule 5: "A type and its supertype both describe or neither does; the described types stand as subtype and supertype too."
abbrev pub described_follow : Types → Option ℕ → Option ℕ → Bool
described_follow ts none none = true
described_follow ts none (some b) = false
described_follow ts (some a) none = false
described_follow ts (some a) (some b) = is_the (super_of (ts a)) b

unfoldable pub describes_follows : Types → ℕ → Bool
describes_follows ts x = given (super_of (ts x)) true (λ p. described_follow ts (ts x).describes (ts p).describes)

-- Types that stand at the head of a longer list are asked what they are asked alone. Every test of a type looks at that type, at types
-- that it or its supertype names, and up their chains; where all of these lie below n, two tables that agree below n answer alike.
use Prim.Native.Nat.{ℕ, zero, suc, ◌+◌, ◌<◌, ◌≤◌}
use native.Mathlib.Omega.{arith}
use mathlib.Core.Path.{◌≡◌, refl, sym, ap, ◌∙◌}
use mathlib.Core.Bool.{Bool, true, false, ◌||◌}
use mathlib.Core.Option.{Option, none, some}
use mathlib.Core.List.{List, [], ◌∷◌, ◌++◌, Memᴰ}
use lib.ListN.{length, length-append, get_or-append}
use Rattle.scope.specs.Sizes.{most_steps}
use Rattle.scope.specs.Reading.{given}
use Rattle.scope.specs.Lists.{pairwise, prefixwise}
use Rattle.scope.specs.Syntax.{Heap, abstract, defined, exact, Val, num, ref, Field, Form, struct, func, Definition, Types, blank, types_of, first_of, super_of}
use Rattle.scope.specs.Order.{same_type, climbs, heap_below, val_below}
use Rattle.scope.specs.TypeRules.{in_reach, one_super, super_earlier_and_open, short_chain, field_matches, form_matches, matches_super, clauses_on_struct, describes_earlier, is_the, clauses_agree, descriptor_follows, described_follow, describes_follows}
use Rattle.scope.specs.Judging.{accepted, and_then, links_fault, rule_fault, scan, judge_types}
use Rattle.scope.proofs.Accepted.{judged-kept, judged-no_fault, super_earlier_and_open_lem}
use Rattle.facts_types.specs.TypeRelations.{ValNames, of_defined, of_exact, of_holds, SomeNames, this_names, later_names, FormNames, in_field, in_parameter, in_result, Names, as_described, as_descriptor, in_form}
use Rattle.facts_types.proofs.Named.{reach_says}
use Rattle.facts_types.proofs.Judge.{faultless_judged}

-- lists

module _ {A B : Type 0} (f g : A → B → Bool) where
  pairwise_same : (xs : List A) (ys : List B) → ((x : A) (y : B) → Memᴰ x xs → Memᴰ y ys → f x y ≡ g x y) → pairwise f xs ys ≡ pairwise g xs ys
  pairwise_same [] [] h = refl
  pairwise_same [] (y ∷ ys) h = refl
  pairwise_same (x ∷ xs) [] h = refl
  pairwise_same (x ∷ xs) (y ∷ ys) h =
      let here : f x y ≡ g x y = h x y (Memᴰ.head refl) (Memᴰ.head refl) in
      let more : pairwise f xs ys ≡ pairwise g xs ys = pairwise_same xs ys (λ a b m k. h a b (Memᴰ.tail m) (Memᴰ.tail k)) in
      rw (here, more)

  prefixwise_same : (xs : List A) (ys : List B) → ((x : A) (y : B) → Memᴰ x xs → Memᴰ y ys → f x y ≡ g x y) → prefixwise f xs ys ≡ prefixwise g xs ys
  prefixwise_same xs [] h = refl
  prefixwise_same [] (y ∷ ys) h = refl
  prefixwise_same (x ∷ xs) (y ∷ ys) h =
      let here : f x y ≡ g x y = h x y (Memᴰ.head refl) (Memᴰ.head refl) in
      let more : prefixwise f xs ys ≡ prefixwise g xs ys = prefixwise_same xs ys (λ a b m k. h a b (Memᴰ.tail m) (Memᴰ.tail k)) in
      rw (here, more)

some_of : {A : Type 0} {R : A → ℕ → Type 0} {x : A} {xs : List A} {y : ℕ} → Memᴰ x xs → R x y → SomeNames R xs y
some_of {R = R} {y = y} (Memᴰ.head e) r = this_names (rw e at r)
some_of (Memᴰ.tail m) r = later_names (some_of m r)

-- what a heap type and a value type name lies below n

abbrev HeapInside : ℕ → Heap → Type 0
HeapInside n (abstract a) = Unit {0}
HeapInside n (defined x) = x < n
HeapInside n (exact x) = x < n

abbrev ValInside : ℕ → Val → Type 0
ValInside n (num k) = Unit {0}
ValInside n (ref m h) = HeapInside n h

val_inside : (n : ℕ) (v : Val) → ((y : ℕ) → ValNames v y → y < n) → ValInside n v
val_inside n (num k) h = tt
val_inside n (ref m (abstract a)) h = tt
val_inside n (ref m (defined x)) h = h x of_defined
val_inside n (ref m (exact x)) h = h x of_exact

-- a table in which supertypes are earlier, and what the types below n name lies below n
pub record Within (n : ℕ) (ts : Types) : Type 0 where
  pub earlier : (x : ℕ) → x < n → {p : ℕ} → super_of (ts x) ≡ some p → p < x
  pub named : (x : ℕ) → x < n → {y : ℕ} → Names (ts x) y → y < n

module _ {n : ℕ} {ts us : Types} (agree : (y : ℕ) → y < n → us y ≡ ts y) (within : Within n ts) where
  -- the chain and the order

  chain_same : (k x : ℕ) → x < n → short_chain k us x ≡ short_chain k ts x
  unfolding short_chain
  chain_same zero x below = rw (agree x below)
  chain_same (suc k) x below = rw (agree x below) (go (super_of (ts x)) refl (λ p h. chain_same k p h))
    where
      go : (o : Option ℕ) → super_of (ts x) ≡ o → ((p : ℕ) → p < n → short_chain k us p ≡ short_chain k ts p) → given o true (λ p. short_chain k us p) ≡ given o true (λ p. short_chain k ts p)
      go none e same = refl
      go (some p) e same = let up : p < x = within.earlier x below e in same p (omega arith)

  climbs_same : (k x y : ℕ) → x < n → climbs k us x y ≡ climbs k ts x y
  unfolding climbs
  climbs_same zero x y below = refl
  climbs_same (suc k) x y below = rw (agree x below) (ap (λ (t : Bool). same_type x y || t) (go (super_of (ts x)) refl (λ p h. climbs_same k p y h)))
    where
      go : (o : Option ℕ) → super_of (ts x) ≡ o → ((p : ℕ) → p < n → climbs k us p y ≡ climbs k ts p y) → given o false (λ p. climbs k us p y) ≡ given o false (λ p. climbs k ts p y)
      go none e same = refl
      go (some p) e same = let up : p < x = within.earlier x below e in same p (omega arith)

  heap_same : (h k : Heap) → HeapInside n h → HeapInside n k → heap_below us h k ≡ heap_below ts h k
  unfolding heap_below
  heap_same (abstract a) (abstract b) p q = refl
  heap_same (abstract a) (defined y) p q = rw (agree y q)
  heap_same (abstract a) (exact y) p q = rw (agree y q)
  heap_same (defined x) (abstract b) p q = rw (agree x p)
  heap_same (defined x) (defined y) p q = climbs_same most_steps x y p
  heap_same (defined x) (exact y) p q = refl
  heap_same (exact x) (abstract b) p q = rw (agree x p)
  heap_same (exact x) (defined y) p q = climbs_same most_steps x y p
  heap_same (exact x) (exact y) p q = refl

  val_same : (v w : Val) → ValInside n v → ValInside n w → val_below us v w ≡ val_below ts v w
  unfolding val_below
  val_same (num a) (num b) p q = refl
  val_same (num a) (ref m k) p q = refl
  val_same (ref l h) (num b) p q = refl
  val_same (ref l h) (ref m k) p q = rw (heap_same h k p q)

  field_same : (f g : Field) → ValInside n f.holds → ValInside n g.holds → field_matches us f g ≡ field_matches ts f g
  field_same f g p q = rw (val_same f.holds g.holds p q)

  form_same : (f g : Form) → ((y : ℕ) → FormNames f y → y < n) → ((y : ℕ) → FormNames g y → y < n) → form_matches us f g ≡ form_matches ts f g
  unfolding form_matches
  form_same (struct fs) (struct gs) p q =
      prefixwise_same (field_matches us) (field_matches ts) fs gs (λ f g m k.
      field_same f g (val_inside n f.holds (λ y v. p y (in_field (some_of m (of_holds v))))) (val_inside n g.holds (λ y v. q y (in_field (some_of k (of_holds v))))))
  form_same (struct fs) (func qs ss) p q = refl
  form_same (func ps rs) (struct gs) p q = refl
  form_same (func ps rs) (func qs ss) p q =
      let parameters : pairwise (λ a b. val_below us b a) ps qs ≡ pairwise (λ a b. val_below ts b a) ps qs =
      pairwise_same (λ a b. val_below us b a) (λ a b. val_below ts b a) ps qs (λ a b m k.
      val_same b a (val_inside n b (λ y v. q y (in_parameter (some_of k v)))) (val_inside n a (λ y v. p y (in_parameter (some_of m v))))) in
      let results : pairwise (val_below us) rs ss ≡ pairwise (val_below ts) rs ss =
      pairwise_same (val_below us) (val_below ts) rs ss (λ a b m k.
      val_same a b (val_inside n a (λ y v. p y (in_result (some_of m v)))) (val_inside n b (λ y v. q y (in_result (some_of k v))))) in
      rw (parameters, results)

  -- the rules

  module _ (x : ℕ) (below : x < n) where
    up_inside : {p : ℕ} → super_of (ts x) ≡ some p → p < n
    up_inside e = let up = within.earlier x below e in omega arith

    reach_same : in_reach us x ≡ in_reach ts x
    unfolding in_reach
    reach_same = rw (agree x below)

    super_same : super_earlier_and_open us x ≡ super_earlier_and_open ts x
    unfolding super_earlier_and_open
    super_same = rw (agree x below) (go (ts x).supers (λ p e. up_inside e))
      where
        go : (supers : List ℕ) → ((p : ℕ) → first_of supers ≡ some p → p < n) → one_super us x supers ≡ one_super ts x supers
        go [] h = refl
        go (p ∷ []) h = rw (agree p (h p refl))
        go (p ∷ q ∷ more) h = refl

    matches_same : matches_super us x ≡ matches_super ts x
    unfolding matches_super
    matches_same = rw (agree x below) (go (super_of (ts x)) refl)
      where
        go : (o : Option ℕ) → super_of (ts x) ≡ o → given o true (λ p. form_matches us (ts x).form (us p).form) ≡ given o true (λ p. form_matches ts (ts x).form (ts p).form)
        go none e = refl
        go (some p) e =
            rw (agree p (up_inside e))
            (form_same (ts x).form (ts p).form (λ y f. within.named x below (in_form f)) (λ y f. within.named p (up_inside e) (in_form f)))

    on_struct_same : clauses_on_struct us x ≡ clauses_on_struct ts x
    unfolding clauses_on_struct
    on_struct_same = rw (agree x below)

    describes_earlier_same : describes_earlier us x ≡ describes_earlier ts x
    unfolding describes_earlier
    describes_earlier_same = rw (agree x below)

    agree_same : clauses_agree us x ≡ clauses_agree ts x
    unfolding clauses_agree
    agree_same = rw (agree x below) (rw (descriptor (ts x).descriptor refl, described (ts x).describes refl))
      where
        descriptor : (o : Option ℕ) → (ts x).descriptor ≡ o → given o true (λ y. is_the (us y).describes x) ≡ given o true (λ y. is_the (ts y).describes x)
        descriptor none e = refl
        descriptor (some y) e = rw (agree y (within.named x below (as_descriptor e)))

        described : (o : Option ℕ) → (ts x).describes ≡ o → given o true (λ y. is_the (us y).descriptor x) ≡ given o true (λ y. is_the (ts y).descriptor x)
        described none e = refl
        described (some y) e = rw (agree y (within.named x below (as_described e)))

    descriptor_follows_same : descriptor_follows us x ≡ descriptor_follows ts x
    unfolding descriptor_follows
    descriptor_follows_same = rw (agree x below) (go (super_of (ts x)) refl)
      where
        its : (y : ℕ) (o : Option ℕ) → (ts x).descriptor ≡ o → given o false (λ d. is_the (super_of (us d)) y) ≡ given o false (λ d. is_the (super_of (ts d)) y)
        its y none e = refl
        its y (some d) e = rw (agree d (within.named x below (as_descriptor e)))

        of_super : (o : Option ℕ) → given o true (λ y. given (ts x).descriptor false (λ d. is_the (super_of (us d)) y)) ≡ given o true (λ y. given (ts x).descriptor false (λ d. is_the (super_of (ts d)) y))
        of_super none = refl
        of_super (some y) = its y (ts x).descriptor refl

        go : (o : Option ℕ) → super_of (ts x) ≡ o
            → given o true (λ p. given (us p).descriptor true (λ y. given (ts x).descriptor false (λ d. is_the (super_of (us d)) y)))
            ≡ given o true (λ p. given (ts p).descriptor true (λ y. given (ts x).descriptor false (λ d. is_the (super_of (ts d)) y)))
        go none e = refl
        go (some p) e = rw (agree p (up_inside e)) (of_super (ts p).descriptor)

    describes_follows_same : describes_follows us x ≡ describes_follows ts x
    unfolding describes_follows
    describes_follows_same = rw (agree x below) (go (super_of (ts x)) refl)
      where
        both : (a b : Option ℕ) → (ts x).describes ≡ a → described_follow us a b ≡ described_follow ts a b
        both none none e = refl
        both none (some b) e = refl
        both (some a) none e = refl
        both (some a) (some b) e = rw (agree a (within.named x below (as_described e)))

        go : (o : Option ℕ) → super_of (ts x) ≡ o
            → given o true (λ p. described_follow us (ts x).describes (us p).describes) ≡ given o true (λ p. described_follow ts (ts x).describes (ts p).describes)
        go none e = refl
        go (some p) e = rw (agree p (up_inside e)) (both (ts x).describes (ts p).describes refl)

    pub links_same : links_fault us x ≡ links_fault ts x
    unfolding links_fault
    links_same = rw (reach_same, super_same, chain_same most_steps x below)

    pub rules_same : rule_fault us x ≡ rule_fault ts x
    unfolding rule_fault
    rules_same = rw (matches_same, on_struct_same, describes_earlier_same, agree_same, descriptor_follows_same, describes_follows_same)

-- a scan that meets no fault at the first k numbers goes on after them
pub scan_skips : (fault : ℕ → Option ℕ) (x k n : ℕ) → ((y : ℕ) → x ≤ y → y < x + k → fault y ≡ none) → scan fault x (k + n) ≡ scan fault (x + k) n
unfolding scan
scan_skips fault x zero n h = let q : x + 0 ≡ x = omega arith in let r : 0 + n ≡ n = omega arith in rw (q, r)
scan_skips fault x (suc k) n h =
    let here : fault x ≡ none = h x (omega arith) (omega arith) in
    let later : scan fault (x + 1) (k + n) ≡ scan fault (x + 1 + k) n = scan_skips fault (x + 1) k n (λ y from below. h y (omega arith) (omega arith)) in
    let q : suc k + n ≡ suc (k + n) = omega arith in
    let r : x + 1 + k ≡ x + suc k = omega arith in
    rw (q, here, later, r)

-- a list that is judged with yes, and whose types reach no further than its end, is judged alike at the head of a longer one

module _ (ls more : List Definition) {m : ℕ} (yes' : judge_types (types_of ls) (length ls) ≡ accepted m) (reaches : (x : ℕ) → x < length ls → (types_of ls x).reach ≤ length ls) where
  head_same : (y : ℕ) → y < length ls → types_of (ls ++ more) y ≡ types_of ls y
  head_same y below = get_or-append ls more blank y below

  head_within : Within (length ls) (types_of ls)
  head_within =
      let kept = judged-kept ls yes' in
      record {
        earlier = λ x below e. (super_earlier_and_open_lem (types_of ls) x (kept.links x).super e).0;
        named = λ x below y-named. let far = (reach_says (types_of ls) x (kept.links x).reach).reached y-named in let end = reaches x below in omega arith;
      }

  pub head_no_fault : (x : ℕ) → x < length ls → (links_fault (types_of (ls ++ more)) x ≡ none) × (rule_fault (types_of (ls ++ more)) x ≡ none)
  head_no_fault x below =
      let (links, rules) = judged-no_fault (types_of ls) (length ls) yes' x below in
      (links_same head_same head_within x below ∙ links, rules_same head_same head_within x below ∙ rules)

  -- so a scan of the longer list may begin after the head: "all the library's faults, rules included, come .. before any of the
  -- add-on's", and none of them is met again

  pub skips_links : (n : ℕ) → scan (links_fault (types_of (ls ++ more))) 0 (length ls + n) ≡ scan (links_fault (types_of (ls ++ more))) (length ls) n
  skips_links n = let q : 0 + length ls ≡ length ls = omega arith in scan_skips (links_fault (types_of (ls ++ more))) 0 (length ls) n (λ y from below. (head_no_fault y (omega arith)).0) ∙ ap (λ (from : ℕ). scan (links_fault (types_of (ls ++ more))) from n) q

  pub skips_rules : (n : ℕ) → scan (rule_fault (types_of (ls ++ more))) 0 (length ls + n) ≡ scan (rule_fault (types_of (ls ++ more))) (length ls) n
  skips_rules n = let q : 0 + length ls ≡ length ls = omega arith in scan_skips (rule_fault (types_of (ls ++ more))) 0 (length ls) n (λ y from below. (head_no_fault y (omega arith)).1) ∙ ap (λ (from : ℕ). scan (rule_fault (types_of (ls ++ more))) from n) q

  pub skips_library : judge_types (types_of (ls ++ more)) (length (ls ++ more))
      ≡ and_then (scan (links_fault (types_of (ls ++ more))) (length ls) (length more)) (λ all. scan (rule_fault (types_of (ls ++ more))) (length ls) (length more))
  unfolding judge_types
  skips_library = rw (length-append ls more, skips_links (length more), skips_rules (length more))

-- and the other way: what is judged with yes in the longer list is so alone

module _ (ls more : List Definition) {m : ℕ} (yes' : judge_types (types_of (ls ++ more)) (length (ls ++ more)) ≡ accepted m) (reaches : (x : ℕ) → x < length ls → (types_of ls x).reach ≤ length ls) where
  part_same : (y : ℕ) → y < length ls → types_of ls y ≡ types_of (ls ++ more) y
  part_same y below = sym (get_or-append ls more blank y below)

  part_within : Within (length ls) (types_of (ls ++ more))
  part_within =
      let kept = judged-kept (ls ++ more) yes' in
      record {
        earlier = λ x below e. (super_earlier_and_open_lem (types_of (ls ++ more)) x (kept.links x).super e).0;
        named = λ x below y-named.
            let far = (reach_says (types_of (ls ++ more)) x (kept.links x).reach).reached y-named in
            let same : (types_of ls x).reach ≡ (types_of (ls ++ more) x).reach = ap (λ (d : Definition). d.reach) (part_same x below) in
            let end = reaches x below in
            omega arith;
      }

  part_no_fault : (x : ℕ) → x < length ls → (links_fault (types_of ls) x ≡ none) × (rule_fault (types_of ls) x ≡ none)
  part_no_fault x below =
      let all = length-append ls more in
      let (links, rules) = judged-no_fault (types_of (ls ++ more)) (length (ls ++ more)) yes' x (omega arith) in
      (links_same part_same part_within x below ∙ links, rules_same part_same part_within x below ∙ rules)

  pub head_alone : judge_types (types_of ls) (length ls) ≡ accepted (length ls)
  head_alone = faultless_judged (types_of ls) (length ls) part_no_fault

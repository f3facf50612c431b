-- The table of two sections: rows of the library and then of the add-on, codes of each in a buffer of its own. Read as one, it
-- says the joined list of types.
use Prim.Native.Nat.{ℕ, zero, suc, ◌+◌, ◌-◌, ◌*◌, ◌≤◌, ◌<◌}
use mathlib.Core.Path.{◌≡◌, refl, sym, ap, ap₂, ◌∙◌, fun_ext}
use mathlib.Core.List.{List, [], ◌∷◌, ◌++◌, map, map-append, append_assoc}
use native.Mathlib.Omega.{arith}
use lib.ListN.{length, take, drop, replicate, length-append, length-map}
use native.Mathlib.Nat.{sub-zero, suc-sub-suc}
use lib.Seq.{take-append_seam, drop-append_seam}
use Rattle.scope.specs.Layout.{codes_size}
use Rattle.scope.specs.Syntax.{Definition, Types, types_of}
use Rattle.scope.specs.Memory.{form_codes, table_codes}
use Rattle.scope.specs.Judging.{accepted, judge_types}
use Rattle.type_table.specs.View.{view, row, rows_of, plain_from, codes_of, both_codes}
use Rattle.type_table.specs.Kept.{kept_definition}
use Rattle.type_table.proofs.AtMost.{SupersAtMost, first_few, later_few, accepted_few}
use Rattle.type_table.proofs.AcceptedRows.{single-rows, table-codes}
use Rattle.type_table.proofs.KeptVerdict.{ReachWithin, kept_accepted}
use Rattle.type_table.proofs.Growing.{row-length}
use Rattle.type_table.proofs.Viewed.{row-view, next_view, view_from}
use Rattle.type_table.proofs.Sides.{side-length}

-- The add-on's codes stand from 0 on, the library's from `first` on; what lies between them and after does not matter.

two_from : (ls ds : List Definition) (z : ℕ) (pad post : List ℕ) (first : ℕ) → length (codes_of ds ++ pad) ≡ first → SupersAtMost 2 (ls ++ ds) → (x : ℕ)
    → view (rows_of first ls ++ (rows_of 0 ds ++ replicate z 0)) (codes_of ds ++ (pad ++ (codes_of ls ++ post))) x ≡ types_of (ls ++ ds) x
unfolding rows_of codes_of
two_from [] ds z pad post first h few x = view_from ds z [] (pad ++ post) 0 refl few x
two_from (l ∷ ls) ds z pad post first h few zero =
    let seen = row-view l (rows_of (first + length (form_codes l.form)) ls ++ (rows_of 0 ds ++ replicate z 0)) (codes_of ds ++ pad) (codes_of ls ++ post) first h (first_few few) in
    simp append_assoc (simp append_assoc at seen)
two_from (l ∷ ls) ds z pad post first h few (suc x) =
    let codes = form_codes l.form in
    let same : length (codes_of ds ++ (pad ++ codes)) ≡ first + length codes = simp length-append (omega (arith, rw (length-append (codes_of ds) pad) at h)) in
    let more = two_from ls ds z (pad ++ codes) post (first + length codes) same (later_few few) x in
    simp append_assoc
    (next_view (row first l) (rows_of (first + length codes) ls ++ (rows_of 0 ds ++ replicate z 0)) (codes_of ds ++ (pad ++ (codes ++ (codes_of ls ++ post)))) x (row-length first l)
    ∙ (simp append_assoc at more))

-- The two buffers: the add-on's codes are followed by what its buffer has beyond, and by the library's.

take_more : (n : ℕ) (xs ys : List ℕ) → length xs ≤ n → take n (xs ++ ys) ≡ xs ++ take (n - length xs) ys
take_more n [] ys h = simp sub-zero
take_more zero (x ∷ xs) ys h = absurd (omega arith)
take_more (suc n) (x ∷ xs) ys h = ap (λ (l : List ℕ). x ∷ l) (take_more n xs ys (omega arith) ∙ simp suc-sub-suc)

pub two_sections : (ls ds : List Definition) (z : ℕ) (beyond post : List ℕ) → length (codes_of ds) ≤ codes_size → SupersAtMost 2 (ls ++ ds)
    → view (rows_of codes_size ls ++ (rows_of 0 ds ++ replicate z 0)) (both_codes (codes_of ls ++ post) (codes_of ds ++ beyond)) ≡ types_of (ls ++ ds)
unfolding both_codes
two_sections ls ds z beyond post h few =
    let pad : List ℕ = take (codes_size - length (codes_of ds)) (beyond ++ replicate codes_size 0) in
    let apart : take codes_size ((codes_of ds ++ beyond) ++ replicate codes_size 0) ≡ codes_of ds ++ pad =
    ap (take codes_size) (append_assoc (codes_of ds) beyond (replicate codes_size 0)) ∙ take_more codes_size (codes_of ds) (beyond ++ replicate codes_size 0) h in
    let long : length (codes_of ds ++ pad) ≡ codes_size = ap length (sym apart) ∙ side-length (codes_of ds ++ beyond) in
    rw (apart, append_assoc (codes_of ds) pad (codes_of ls ++ post)) (fun_ext (two_from ls ds z pad post codes_size long few))

-- after an acceptance of the joined list the table holds the words that scope's Memory.antt names, each section's from its first code on

split_at : (xs xs' ys ys' : List Definition) → length xs ≡ length xs' → xs ++ ys ≡ xs' ++ ys' → (xs ≡ xs') × (ys ≡ ys')
split_at xs xs' ys ys' h e =
    let a : take (length xs) (xs ++ ys) ≡ xs = take-append_seam xs ys in
    let b : take (length xs) (xs' ++ ys') ≡ xs' = rw h (take-append_seam xs' ys') in
    let c : drop (length xs) (xs ++ ys) ≡ ys = drop-append_seam xs ys in
    let d : drop (length xs) (xs' ++ ys') ≡ ys' = rw h (drop-append_seam xs' ys') in
    (sym a ∙ ap (take (length xs)) e ∙ b, sym c ∙ ap (drop (length xs)) e ∙ d)

pub few_at_lem : {n : ℕ} (ls ds : List Definition) → SupersAtMost n (ls ++ ds) → (x : ℕ) → length (types_of ls x).supers ≤ n
few_at_lem [] ds p x = omega arith
few_at_lem (l ∷ ls) ds p zero = first_few p
few_at_lem (l ∷ ls) ds p (suc x) = few_at_lem ls ds (later_few p) x

pub few_own : {n : ℕ} (ls ds : List Definition) → SupersAtMost n (ls ++ ds) → SupersAtMost n ds
few_own [] ds p = p
few_own (l ∷ ls) ds p = few_own ls ds (later_few p)

module _ (ls ds : List Definition) (bound : ReachWithin (types_of (ls ++ ds))) {n : ℕ} (e : judge_types (types_of (ls ++ ds)) (length (ls ++ ds)) ≡ accepted n) where
  both-kept : (map kept_definition ls ≡ ls) × (map kept_definition ds ≡ ds)
  both-kept = split_at (map kept_definition ls) ls (map kept_definition ds) ds (length-map ls kept_definition) (sym (map-append kept_definition ls ds) ∙ kept_accepted (ls ++ ds) bound e)

  pub two-table-rows : rows_of codes_size (map kept_definition ls) ++ rows_of 0 (map kept_definition ds) ≡ plain_from codes_size ls ++ plain_from 0 ds
  two-table-rows =
      let few = accepted_few (ls ++ ds) e in
      let left : SupersAtMost 1 ls = record { few = few_at_lem ls ds few } in
      rw (both-kept.0, both-kept.1) (ap₂ ◌++◌ (single-rows codes_size ls left) (single-rows 0 ds (few_own ls ds few)))

  pub two-table-shared : codes_of (map kept_definition ls) ≡ table_codes ls
  two-table-shared = ap codes_of both-kept.0 ∙ table-codes ls

  pub two-table-codes : codes_of (map kept_definition ds) ≡ table_codes ds
  two-table-codes = ap codes_of both-kept.1 ∙ table-codes ds

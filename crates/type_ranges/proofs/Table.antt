-- Rows that have been given their ranges are the table's, word by word: of each row the words before and after the range are as they
-- were read, and the two between are its start and its end.
use Prim.Native.Nat.{ℕ, zero, suc, ◌+◌, ◌-◌, ◌*◌, ◌/◌, ◌%◌, ◌≤◌, ◌<◌}
use native.Mathlib.Omega.{arith}
use mathlib.Core.Path.{◌≡◌, refl, sym, ◌∙◌, ap, fun_ext}
use mathlib.Core.Bool.{Bool, true, false}
use mathlib.Core.List.{List, [], ◌∷◌, ◌++◌, append_assoc}
use borrow.Author.Tests.{ltb-true, ltb-false, eqb-true, eqb-false}
use lib.Dec.{eqb, ltb}
use lib.ListN.{length, get_or, replicate, length-append, get_or-append}
use lib.Seq.{get_or-append-add, ext_get_or}
use Rattle.scope.specs.Layout.{row_span, codes_size}
use Rattle.scope.specs.Syntax.{Form, struct, func, Definition, Types, types_of, super_of}
use Rattle.scope.specs.Memory.{flag, form_codes, form_words, or_zero, parents, starts_of, ends_of, row_words, rows_from}
use Rattle.type_table.specs.View.{plain_from, word_of, view}
use Rattle.type_span.specs.Span.{start_word, end_word, Beside}
use Rattle.type_span.proofs.Stores.{beside_more, beside_view, same_words-view}
use Rattle.type_numbering.specs.Ranges.{parent_of, Numbered}

-- the twelve words before the range
unfoldable row_head : ℕ → Definition → List ℕ
row_head first d =
    form_words d.form
    ++ flag d.is_open
    ∷ or_zero (super_of d)
    ∷ or_zero d.describes
    ∷ or_zero d.descriptor
    ∷ d.from
    ∷ d.to
    ∷ d.reach
    ∷ first
    ∷ (length d.supers - 1)
    ∷ []

head_length : (first : ℕ) (d : Definition) → length (row_head first d) ≡ 12
unfolding row_head
head_length first d = length-append (form_words d.form) _ ∙ ap (λ n. n + 9) (form_length d.form)
  where
    form_length : (f : Form) → length (form_words f) ≡ 3
    form_length (struct fs) = refl
    form_length (func ps rs) = refl

row_is : (first start end : ℕ) (d : Definition) → row_words first start end d ≡ row_head first d ++ start ∷ end ∷ 0 ∷ 0 ∷ []
unfolding row_words row_head
row_is first start end d = simp append_assoc

-- word k of the row after a row of sixteen words
next_word : (r rest : List ℕ) (x k : ℕ) → length r ≡ row_span → word_of (r ++ rest) (suc x) k ≡ word_of rest x k
next_word r rest x k h =
    let place : row_span * suc x + k ≡ length r + (row_span * x + k) = omega arith in
    rw place (get_or-append-add r rest (row_span * x + k) 0)

-- the words of a first row
module _ (h : List ℕ) (s e : ℕ) (rest : List ℕ) (twelve : length h ≡ 12) where
  row_long : length (h ++ s ∷ e ∷ 0 ∷ 0 ∷ []) ≡ row_span
  row_long = length-append h (s ∷ e ∷ 0 ∷ 0 ∷ []) ∙ omega arith

  head_word : (k : ℕ) → k < start_word → get_or ((h ++ s ∷ e ∷ 0 ∷ 0 ∷ []) ++ rest) k 0 ≡ get_or h k 0
  head_word k less = rw append_assoc (get_or-append h (s ∷ e ∷ 0 ∷ 0 ∷ rest) 0 k (omega arith))

  later_word : (k i : ℕ) → k ≡ 12 + i → get_or ((h ++ s ∷ e ∷ 0 ∷ 0 ∷ []) ++ rest) k 0 ≡ get_or (s ∷ e ∷ 0 ∷ 0 ∷ rest) i 0
  later_word k i q = let place : k ≡ length h + i = omega arith in rw append_assoc (ap (λ n. get_or (h ++ s ∷ e ∷ 0 ∷ 0 ∷ rest) n 0) place ∙ get_or-append-add h (s ∷ e ∷ 0 ∷ 0 ∷ rest) i 0)

  spare_word : (k : ℕ) → end_word < k → k < row_span → get_or ((h ++ s ∷ e ∷ 0 ∷ 0 ∷ []) ++ rest) k 0 ≡ 0
  spare_word k late less = go (eqb k 14) refl
    where
      go : (b : Bool) → eqb k 14 ≡ b → get_or ((h ++ s ∷ e ∷ 0 ∷ 0 ∷ []) ++ rest) k 0 ≡ 0
      go true q = let is = eqb-true k 14 q in later_word k 2 (omega arith)
      go false q = let other = eqb-false k 14 q in later_word k 3 (omega arith)

-- `rows'` is `rows` with the ranges of m rows: those of the types from x on
pub record RangedAs (start end : ℕ → ℕ) (x m : ℕ) (rows rows' : List ℕ) : Type 0 where
  pub words : (y k : ℕ) → k < start_word → word_of rows' y k ≡ word_of rows y k
  pub spare : (y k : ℕ) → end_word < k → k < row_span → word_of rows' y k ≡ word_of rows y k
  pub starts : (y : ℕ) → y < m → word_of rows' y start_word ≡ start (x + y)
  pub ends : (y : ℕ) → y < m → word_of rows' y end_word ≡ end (x + y)
  pub past : (y k : ℕ) → m ≤ y → word_of rows' y k ≡ word_of rows y k

ranged_none : (start end : ℕ → ℕ) (x : ℕ) (rows : List ℕ) → RangedAs start end x 0 rows rows
ranged_none start end x rows =
    record {
      words = λ y k less. refl;
      spare = λ y k late less. refl;
      starts = λ y less. absurd (omega arith);
      ends = λ y less. absurd (omega arith);
      past = λ y k h. refl;
    }

module _ (start end : ℕ → ℕ) (h : List ℕ) (twelve : length h ≡ 12) (x : ℕ) {m : ℕ} {rest rest' : List ℕ} (r : RangedAs start end (suc x) m rest rest') where
  after : (y k : ℕ) → word_of ((h ++ 0 ∷ 0 ∷ 0 ∷ 0 ∷ []) ++ rest) (suc y) k ≡ word_of rest y k
  after y k = next_word (h ++ 0 ∷ 0 ∷ 0 ∷ 0 ∷ []) rest y k (row_long h 0 0 [] twelve)

  after' : (y k : ℕ) → word_of ((h ++ start x ∷ end x ∷ 0 ∷ 0 ∷ []) ++ rest') (suc y) k ≡ word_of rest' y k
  after' y k = next_word (h ++ start x ∷ end x ∷ 0 ∷ 0 ∷ []) rest' y k (row_long h (start x) (end x) [] twelve)

  one-words : (y k : ℕ) → k < start_word → word_of ((h ++ start x ∷ end x ∷ 0 ∷ 0 ∷ []) ++ rest') y k ≡ word_of ((h ++ 0 ∷ 0 ∷ 0 ∷ 0 ∷ []) ++ rest) y k
  one-words zero k less =
      let place : row_span * zero + k ≡ k = omega arith in
      rw place (head_word h (start x) (end x) rest' twelve k less ∙ sym (head_word h 0 0 rest twelve k less))
  one-words (suc y) k less = after' y k ∙ r.words y k less ∙ sym (after y k)

  one_spare : (y k : ℕ) → end_word < k → k < row_span → word_of ((h ++ start x ∷ end x ∷ 0 ∷ 0 ∷ []) ++ rest') y k ≡ word_of ((h ++ 0 ∷ 0 ∷ 0 ∷ 0 ∷ []) ++ rest) y k
  one_spare zero k late less =
      let place : row_span * zero + k ≡ k = omega arith in
      rw place (spare_word h (start x) (end x) rest' twelve k late less ∙ sym (spare_word h 0 0 rest twelve k late less))
  one_spare (suc y) k late less = after' y k ∙ r.spare y k late less ∙ sym (after y k)

  one-starts : (y : ℕ) → y < suc m → word_of ((h ++ start x ∷ end x ∷ 0 ∷ 0 ∷ []) ++ rest') y start_word ≡ start (x + y)
  one-starts zero less = let own : x + zero ≡ x = omega arith in rw own (later_word h (start x) (end x) rest' twelve start_word 0 refl)
  one-starts (suc y) less = let further : x + suc y ≡ suc x + y = omega arith in rw further (after' y start_word ∙ r.starts y (omega arith))

  one_ends : (y : ℕ) → y < suc m → word_of ((h ++ start x ∷ end x ∷ 0 ∷ 0 ∷ []) ++ rest') y end_word ≡ end (x + y)
  one_ends zero less = let own : x + zero ≡ x = omega arith in rw own (later_word h (start x) (end x) rest' twelve end_word 1 refl)
  one_ends (suc y) less = let further : x + suc y ≡ suc x + y = omega arith in rw further (after' y end_word ∙ r.ends y (omega arith))

  one_past : (y k : ℕ) → suc m ≤ y → word_of ((h ++ start x ∷ end x ∷ 0 ∷ 0 ∷ []) ++ rest') y k ≡ word_of ((h ++ 0 ∷ 0 ∷ 0 ∷ 0 ∷ []) ++ rest) y k
  one_past zero k late = absurd (omega arith)
  one_past (suc y) k late = after' y k ∙ r.past y k (omega arith) ∙ sym (after y k)

  ranged_one : RangedAs start end x (suc m) ((h ++ 0 ∷ 0 ∷ 0 ∷ 0 ∷ []) ++ rest) ((h ++ start x ∷ end x ∷ 0 ∷ 0 ∷ []) ++ rest')
  ranged_one = record { words = one-words; spare = one_spare; starts = one-starts; ends = one_ends; past = one_past }

module _ (start end : ℕ → ℕ) where
  pub ranged_length : (x first : ℕ) (ds : List Definition) → length (rows_from start end x first ds) ≡ row_span * length ds
  unfolding rows_from
  ranged_length x first [] = refl
  ranged_length x first (d ∷ ds) =
      let next = first + length (form_codes d.form) in
      let row : length (row_words first (start x) (end x) d) ≡ row_span = ap length (row_is first (start x) (end x) d) ∙ row_long (row_head first d) (start x) (end x) [] (head_length first d) in
      length-append (row_words first (start x) (end x) d) (rows_from start end (suc x) next ds) ∙ omega (arith, row, ranged_length (suc x) next ds)

  plain-length : (first : ℕ) (ds : List Definition) → length (plain_from first ds) ≡ row_span * length ds
  unfolding plain_from
  plain-length first [] = refl
  plain-length first (d ∷ ds) =
      let next = first + length (form_codes d.form) in
      let row : length (row_words first 0 0 d) ≡ row_span = ap length (row_is first 0 0 d) ∙ row_long (row_head first d) 0 0 [] (head_length first d) in
      length-append (row_words first 0 0 d) (plain_from next ds) ∙ omega (arith, row, plain-length next ds)

  ranged_from : (ds : List Definition) (x first : ℕ) {m : ℕ} {rest rest' : List ℕ} → RangedAs start end (x + length ds) m rest rest' → RangedAs start end x (length ds + m) (plain_from first ds ++ rest) (rows_from start end x first ds ++ rest')
  unfolding plain_from rows_from
  ranged_from [] x first {m} r = let own : x + 0 ≡ x = omega arith in let all : 0 + m ≡ m = omega arith in rw all (rw own at r)
  ranged_from (d ∷ ds) x first {m} {rest} {rest'} r =
      let next = first + length (form_codes d.form) in
      let further : x + suc (length ds) ≡ suc x + length ds = omega arith in
      let all : suc (length ds) + m ≡ suc (length ds + m) = omega arith in
      let more = ranged_from ds (suc x) next (rw further at r) in
      rw (all, row_is first 0 0 d, row_is first (start x) (end x) d, append_assoc (row_head first d ++ 0 ∷ 0 ∷ 0 ∷ 0 ∷ []) (plain_from next ds) rest, append_assoc (row_head first d ++ start x ∷ end x ∷ 0 ∷ 0 ∷ []) (rows_from start end (suc x) next ds) rest')
      (ranged_one start end (row_head first d) (head_length first d) x more)

-- rows of both sections, and zeros

module _ (ls ds : List Definition) (z : ℕ) where
  abbrev pub plain_of : List ℕ
  plain_of = plain_from codes_size ls ++ (plain_from 0 ds ++ replicate z 0)

  abbrev ranged_of : (ℕ → ℕ) → (ℕ → ℕ) → List ℕ
  ranged_of start end = rows_from start end 0 codes_size ls ++ (rows_from start end (length ls) 0 ds ++ replicate z 0)

  both_ranged : (start end : ℕ → ℕ) → RangedAs start end 0 (length ls + (length ds + 0)) plain_of (ranged_of start end)
  both_ranged start end =
      let own : 0 + length ls ≡ length ls = omega arith in
      let addon = ranged_from start end ds (length ls) 0 (ranged_none start end (length ls + length ds) (replicate z 0)) in
      ranged_from start end ls 0 codes_size (rw own addon)

  both_long : (start end : ℕ → ℕ) → length (ranged_of start end) ≡ length plain_of
  both_long start end =
      length-append (rows_from start end 0 codes_size ls) (rows_from start end (length ls) 0 ds ++ replicate z 0)
      ∙ omega (arith, length-append (rows_from start end (length ls) 0 ds) (replicate z 0), length-append (plain_from codes_size ls) (plain_from 0 ds ++ replicate z 0), length-append (plain_from 0 ds) (replicate z 0), ranged_length start end 0 codes_size ls, ranged_length start end (length ls) 0 ds, plain-length start end codes_size ls, plain-length start end 0 ds)

  -- whatever has been given its ranges is this table
  module _ {codes rows' : List ℕ} (t : Numbered (length (ls ++ ds)) codes plain_of rows') (said : view plain_of codes ≡ types_of (ls ++ ds)) where
    same_parents : parent_of plain_of codes ≡ parents (ls ++ ds)
    unfolding parent_of parents
    same_parents = fun_ext (λ x. ap (λ (ts : Types). or_zero (super_of (ts x))) said)

    pub numbered-table : rows' ≡ ranged_of (starts_of (ls ++ ds)) (ends_of (ls ++ ds))
    numbered-table =
        ext_get_or 0 rows' (ranged_of (starts_of (ls ++ ds)) (ends_of (ls ++ ds))) (t.beside.size ∙ sym (both_long (starts_of (ls ++ ds)) (ends_of (ls ++ ds))))
        (λ i less. let k = i % row_span in let y = i / row_span in let place : i ≡ row_span * y + k = omega arith in rw place (at_place y k (omega arith) (ltb k start_word) (ltb y (length (ls ++ ds))) refl refl))
      where
        r : RangedAs (starts_of (ls ++ ds)) (ends_of (ls ++ ds)) 0 (length ls + (length ds + 0)) plain_of (ranged_of (starts_of (ls ++ ds)) (ends_of (ls ++ ds)))
        r = both_ranged (starts_of (ls ++ ds)) (ends_of (ls ++ ds))

        many : length (ls ++ ds) ≡ length ls + (length ds + 0)
        many = length-append ls ds ∙ omega arith

        at_place : (y k : ℕ) → k < row_span → (a b : Bool) → ltb k start_word ≡ a → ltb y (length (ls ++ ds)) ≡ b → word_of rows' y k ≡ word_of (ranged_of (starts_of (ls ++ ds)) (ends_of (ls ++ ds))) y k
        at_place y k h true b e f = t.beside.words y k (ltb-true k start_word e) ∙ sym (r.words y k (ltb-true k start_word e))
        at_place y k h false false e f = let late = ltb-false y (length (ls ++ ds)) f in t.beside.past y k late ∙ sym (r.past y k (omega (arith, many)))
        at_place y k h false true e f = last (eqb k start_word) (eqb k end_word) refl refl
          where
            inside : y < length (ls ++ ds)
            inside = ltb-true y (length (ls ++ ds)) f

            own : 0 + y ≡ y
            own = omega arith

            last : (c g : Bool) → eqb k start_word ≡ c → eqb k end_word ≡ g → word_of rows' y k ≡ word_of (ranged_of (starts_of (ls ++ ds)) (ends_of (ls ++ ds))) y k
            last true g p q = rw (eqb-true k start_word p) ((rw same_parents at (t.starts_are y inside)) ∙ sym (rw own at (r.starts y (omega (arith, many, inside)))))
            last false true p q = rw (eqb-true k end_word q) ((rw same_parents at (t.ends_are y inside)) ∙ sym (rw own at (r.ends y (omega (arith, many, inside)))))
            last false false p q =
                let low = ltb-false k start_word e in
                let one = eqb-false k start_word p in
                let two = eqb-false k end_word q in
                t.beside.spare y k (omega arith) h ∙ sym (r.spare y k (omega arith) h)

-- ranges that were there before do not matter
module _ {m n : ℕ} {codes rows rows₁ rows₂ : List ℕ} (b : Beside m rows rows₁) (fewer : m ≤ n) (t : Numbered n codes rows₁ rows₂) where
  over_parents : parent_of rows₁ codes ≡ parent_of rows codes
  unfolding parent_of
  over_parents = fun_ext (λ x. ap (λ (ts : Types). or_zero (super_of (ts x))) (beside_view b codes))

  pub numbered_over : Numbered n codes rows rows₂
  numbered_over =
      record {
        beside = beside_more b t.beside n fewer (omega arith);
        size = t.size;
        sizes = rw over_parents at t.sizes;
        starts = rw over_parents at t.starts;
        ends = t.ends;
        starts_are = rw over_parents at t.starts_are;
        ends_are = rw over_parents at t.ends_are;
      }

-- the view does not look at a range
pub ranged_view : (ls ds : List Definition) (z : ℕ) (start end : ℕ → ℕ) (codes : List ℕ) → view (rows_from start end 0 codes_size ls ++ (rows_from start end (length ls) 0 ds ++ replicate z 0)) codes ≡ view (plain_of ls ds z) codes
ranged_view ls ds z start end codes = same_words-view (plain_of ls ds z) (rows_from start end 0 codes_size ls ++ (rows_from start end (length ls) 0 ds ++ replicate z 0)) (both_ranged ls ds z start end).words codes

-- What stands in the table when a section has been read can be judged: zeros follow its types, and of the types before it the first
-- pass is known. The add-on's rows are put over the library's with their ranges; over the library's rows as they were read they would
-- say the same, since nobody but the order looks at a range.
use Prim.Native.Nat.{ℕ, zero, suc, ◌+◌, ◌-◌, ◌*◌, ◌≤◌, ◌<◌}
use mathlib.Core.Path.{◌≡◌, refl, sym, ap, ◌∙◌}
use mathlib.Core.Bool.{Bool, true, false}
use mathlib.Core.Option.{none}
use mathlib.Core.List.{List, [], ◌∷◌, ◌++◌, map, append_assoc}
use native.Mathlib.Omega.{arith}
use borrow.Author.Tests.{ltb-true, ltb-false}
use lib.Dec.{ltb}
use lib.ListN.{length, get_or, take, drop, replicate, length-append, length-map, length-take, get_or-append}
use lib.Seq.{get_or-append-add, get_or-take, get_or-drop}
use Rattle.std.specs.Prelude.{Result, Ok, Err}
use Rattle.scope.specs.declared.Refused.{Refused}
use Rattle.scope.specs.Sizes.{most_types}
use Rattle.scope.specs.Layout.{row_span, rows_size, codes_size}
use Rattle.scope.specs.Reading.{Read, got, refused}
use Rattle.scope.specs.Lists.{joined}
use Rattle.scope.specs.Syntax.{Definition, Group, types_of}
use Rattle.scope.specs.Sections.{read_after}
use Rattle.scope.specs.Judging.{accepted, links_fault, judge_types}
use Rattle.scope.proofs.Impossible.{impossible}
use Rattle.facts_types.proofs.Longer.{head_no_fault}
use Rattle.facts_types.proofs.Reaches.{read_reach as reads-within}
use Rattle.type_table.specs.Kept.{kept_definition}
use Rattle.type_table.specs.View.{word_of, view, rows_of, both_codes}
use Rattle.type_table.proofs.Puts.{Puts, puts_length, puts_zero}
use Rattle.type_table.proofs.Growing.{rows-length}
use Rattle.type_table.proofs.KeptVerdict.{kept_accepted}
use Rattle.type_span.specs.Span.{start_word, end_word, Beside}
use Rattle.type_span.proofs.Stores.{beside_view}
use Rattle.section_definition.specs.Rows.{low}
use Rattle.section_group.specs.Lent.{kept_all}
use Rattle.section_reader.specs.Whole.{section_is, SectionPut}
use Rattle.section_reader.proofs.Modest.{read_lengths, read_reach}
use Rattle.section_reader.proofs.TwoRead.{two_viewed, two-rows}
use Rattle.section_decide.specs.Deciding.{Decidable}
use Rattle.section_both.specs.Both.{Ready, Opened}

-- what was read, taken apart

pub read_refused : (before : ℕ) (o : Read (List Group)) {q : Result ℕ Refused} {no : Refused} → q ≡ section_is before o → q ≡ Err no → o ≡ refused no.number no.at
read_refused before (got gs m) x y = impossible cc
read_refused before (refused n m) x y = cc

pub read_got : (before : ℕ) (o : Read (List Group)) {q : Result ℕ Refused} {count : ℕ} → q ≡ section_is before o → q ≡ Ok count → (gs : List Group) × (end : ℕ) × (o ≡ got gs end) × (count ≡ before + length (joined gs))
read_got before (got gs m) x y = (gs, m, refl, cc)
read_got before (refused n m) x y = impossible cc

pub zeroed : {o : Read (List Group)} {before base : ℕ} {rows z rows' mine mine' : List ℕ} {q : Result ℕ Refused} → rows ≡ z → SectionPut o before base rows rows' mine mine' q → SectionPut o before base z rows' mine mine' q
zeroed e p = rw e at p

-- zeros

zero-at : (z k : ℕ) → ◌≡◌ {A = ℕ} (get_or (replicate z 0) k 0) 0
zero-at zero k = refl
zero-at (suc z) zero = refl
zero-at (suc z) (suc k) = zero-at z k

past_word : (l : List ℕ) (z i : ℕ) → length l ≤ i → get_or (l ++ replicate z 0) i 0 ≡ 0
past_word l z i h =
    let place : i ≡ length l + (i - length l) = omega arith in
    rw place (get_or-append-add l (replicate z 0) (i - length l) 0 ∙ zero-at z (i - length l))

-- the library

module _ (library : List ℕ) {rows shared codes rows₁ shared₁ : List ℕ} (ready : Ready rows shared codes) {q : Result ℕ Refused} (a : SectionPut (read_after 0 library) 0 codes_size rows rows₁ shared shared₁ q) where
  library_read : (gs : List Group) {end : ℕ} → read_after 0 library ≡ got gs end → Decidable 0 (length (joined gs)) (both_codes shared₁ codes) rows₁
  library_read gs {end} read =
      let ws : List ℕ = map low (rows_of codes_size (kept_all (joined gs))) in
      let is : rows₁ ≡ ws ++ replicate (length rows - length ws) 0 = puts_zero (length rows) ((zeroed ready.rows_zero a).rows_put gs end read) in
      let long : length ws ≡ row_span * length (joined gs) =
      length-map (rows_of codes_size (kept_all (joined gs))) low ∙ rows-length codes_size (kept_all (joined gs)) ∙ ap (λ (n : ℕ). row_span * n) (length-map (joined gs) kept_definition) in
      let few = (read_lengths 0 (omega arith) library read).0 in
      let enough : rows_size ≤ length rows = ready.rows_enough in
      let kept : length rows₁ ≡ length rows = a.rows_kept in
      record {
        room = omega (arith, few, enough, kept);
        count = omega (arith, few);
        earlier = λ x less. absurd (omega arith);
        past = λ x k late. rw is (past_word ws (length rows - length ws) (row_span * x + k) (omega (arith, long)));
      }

  pub library_decidable : {count : ℕ} → q ≡ Ok count → Decidable 0 count (both_codes shared₁ codes) rows₁
  library_decidable e =
      let (gs, end, read, many) = read_got 0 (read_after 0 library) a.answer e in
      let same : _ ≡ length (joined gs) = many ∙ omega arith in
      rw same (library_read gs read)

-- words put at the same place of two memories

module _ {m m' : List ℕ} {at : ℕ} {ws : List ℕ} (p : Puts m m' at ws) where
  head_long : length (take at m) ≡ at
  head_long = length-take at m ∙ omega (arith, p.room)

  put_before : (i : ℕ) → i < at → get_or m' i 0 ≡ get_or m i 0
  put_before i h =
      rw (p.is, append_assoc (take at m) ws (drop (at + length ws) m))
      (get_or-append (take at m) (ws ++ drop (at + length ws) m) 0 i (omega (arith, head_long)) ∙ get_or-take at m i 0 h)

  put-after : (i : ℕ) → at ≤ i → get_or m' i 0 ≡ get_or (ws ++ drop (at + length ws) m) (i - at) 0
  put-after i h =
      let place : i ≡ length (take at m) + (i - at) = omega (arith, head_long) in
      rw (p.is, append_assoc (take at m) ws (drop (at + length ws) m))
      (ap (λ (n : ℕ). get_or (take at m ++ (ws ++ drop (at + length ws) m)) n 0) place ∙ get_or-append-add (take at m) (ws ++ drop (at + length ws) m) (i - at) 0)

  put-beyond : (i : ℕ) → at + length ws ≤ i → get_or (ws ++ drop (at + length ws) m) (i - at) 0 ≡ get_or m i 0
  put-beyond i h =
      let place : i - at ≡ length ws + (i - at - length ws) = omega arith in
      let back : at + length ws + (i - at - length ws) ≡ i = omega arith in
      rw place (get_or-append-add ws (drop (at + length ws) m) (i - at - length ws) 0 ∙ get_or-drop (at + length ws) m (i - at - length ws) 0 ∙ ap (λ (n : ℕ). get_or m n 0) back)

  put-inside : (i : ℕ) → i - at < length ws → get_or (ws ++ drop (at + length ws) m) (i - at) 0 ≡ get_or ws (i - at) 0
  put-inside i h = get_or-append ws (drop (at + length ws) m) 0 (i - at) h

put_alike : {m m' n n' : List ℕ} {at : ℕ} {ws : List ℕ} → Puts m m' at ws → Puts n n' at ws → (i : ℕ) → at ≤ i → get_or m i 0 ≡ get_or n i 0 → get_or m' i 0 ≡ get_or n' i 0
put_alike {m} {m'} {n} {n'} {at} {ws} p q i h e = put-after p i h ∙ go (ltb (i - at) (length ws)) refl ∙ sym (put-after q i h)
  where
    go : (t : Bool) → ltb (i - at) (length ws) ≡ t → get_or (ws ++ drop (at + length ws) m) (i - at) 0 ≡ get_or (ws ++ drop (at + length ws) n) (i - at) 0
    go true f = let less = ltb-true (i - at) (length ws) f in put-inside p i less ∙ sym (put-inside q i less)
    go false f = let late = ltb-false (i - at) (length ws) f in put-beyond p i (omega arith) ∙ e ∙ sym (put-beyond q i (omega arith))

-- the add-on, over the library's rows as they were read

module _ {o : Read (List Group)} {before base : ℕ} {placed rows rows₁ mine mine₁ : List ℕ} {q : Result ℕ Refused} (beside : Beside before placed rows) (b : SectionPut o before base rows rows₁ mine mine₁ q) (more : List Group) {stop : ℕ} (read : o ≡ got more stop) where
  abbrev pub words_read : List ℕ
  words_read = map low (rows_of base (kept_all (joined more)))

  abbrev pub under : List ℕ
  under = take (row_span * before) placed ++ words_read ++ drop (row_span * before + length words_read) placed

  own_put : Puts rows rows₁ (row_span * before) words_read
  own_put = b.rows_put more stop read

  under-put : Puts placed under (row_span * before) words_read
  under-put = record { room = omega (arith, own_put.room, beside.size); is = refl }

  pub under_read : SectionPut o before base placed under mine mine₁ q
  under_read =
      record {
        answer = b.answer;
        rows_put = λ gs end e. let same : more ≡ gs = cc in rw (← same) under-put;
        codes_put = b.codes_put;
        rows_kept = puts_length under-put;
        codes_kept = b.codes_kept;
      }

  late_word : (x k : ℕ) → before ≤ x → word_of rows₁ x k ≡ word_of under x k
  late_word x k h = put_alike own_put under-put (row_span * x + k) (omega arith) (beside.past x k h)

  pub under_beside : Beside before under rows₁
  under_beside =
      record {
        size = b.rows_kept ∙ beside.size ∙ sym (puts_length under-put);
        words = λ x k less. any x k (ltb x before) refl (omega arith) (beside.words x k less);
        spare = λ x k late less. any x k (ltb x before) refl less (beside.spare x k late less);
        past = late_word;
      }
    where
      any : (x k : ℕ) (t : Bool) → ltb x before ≡ t → k < row_span → word_of rows x k ≡ word_of placed x k → word_of rows₁ x k ≡ word_of under x k
      any x k true e h same = let less = ltb-true x before e in put_before own_put (row_span * x + k) (omega arith) ∙ same ∙ sym (put_before under-put (row_span * x + k) (omega arith))
      any x k false e h same = late_word x k (ltb-false x before e)

module _ (library addon : List ℕ) (R : ℕ) (own codes : List ℕ) {shared placed rows rows₁ codes₁ : List ℕ} {q q' : Result ℕ Refused} (gs : List Group) {end m : ℕ}
    (a : SectionPut (read_after 0 library) 0 codes_size (replicate R 0) placed own shared q) (read : read_after 0 library ≡ got gs end) (fine : judge_types (types_of (joined gs)) (length (joined gs)) ≡ accepted m)
    (beside : Beside (length (joined gs)) placed rows) (b : SectionPut (read_after (length (joined gs)) addon) (length (joined gs)) 0 rows rows₁ codes codes₁ q')
    (more : List Group) {stop : ℕ} (read' : read_after (length (joined gs)) addon ≡ got more stop) where
  -- what the table says
  pub over_viewed : view rows₁ (both_codes shared codes₁) ≡ types_of (kept_all (joined gs) ++ kept_all (joined more))
  over_viewed = beside_view (under_beside beside b more read') (both_codes shared codes₁) ∙ two_viewed library addon R own codes gs more a read (under_read beside b more read') read'

  within : (x : ℕ) → x < length (joined gs) → (types_of (joined gs) x).reach ≤ length (joined gs)
  within x h = let near = reads-within 0 library gs read x h in omega (arith, near)

  earlier_none : (x : ℕ) → x < length (joined gs) → links_fault (view rows₁ (both_codes shared codes₁)) x ≡ none
  earlier_none x less =
      let same : kept_all (joined gs) ≡ joined gs = kept_accepted (joined gs) (read_reach 0 (omega arith) library read) fine in
      rw (over_viewed, same) (head_no_fault (joined gs) (kept_all (joined more)) fine within x less).0

  past_zero : (x k : ℕ) → length (joined gs) + length (joined more) ≤ x → word_of rows₁ x k ≡ 0
  past_zero x k late =
      let ls : List ℕ = rows_of codes_size (kept_all (joined gs)) in
      let ds : List ℕ = rows_of 0 (kept_all (joined more)) in
      let is = two-rows library addon R own codes gs more a read (under_read beside b more read') read' in
      let z : ℕ = R - length (ls ++ ds) in
      let long : length (ls ++ ds) ≡ row_span * (length (joined gs) + length (joined more)) =
      (let l = length-map (joined gs) kept_definition in let d = length-map (joined more) kept_definition in length-append ls ds ∙ omega (arith, rows-length codes_size (kept_all (joined gs)), rows-length 0 (kept_all (joined more)), l, d)) in
      (under_beside beside b more read').past x k (omega arith)
      ∙ ap (λ (l : List ℕ). word_of l x k) (is ∙ sym (append_assoc ls ds (replicate z 0)))
      ∙ past_word (ls ++ ds) z (row_span * x + k) (omega (arith, long))

  pub over_decidable : rows_size ≤ length rows → Decidable (length (joined gs)) (length (joined gs) + length (joined more)) (both_codes shared codes₁) rows₁
  over_decidable enough =
      let few = (read_lengths 0 (omega arith) library read).0 in
      let all = (read_lengths (length (joined gs)) (omega (arith, few)) addon read').0 in
      let kept : length rows₁ ≡ length rows = b.rows_kept in
      record {
        room = omega (arith, all, enough, kept);
        count = all;
        earlier = earlier_none;
        past = past_zero;
      }

module _ (addon : List ℕ) {before : ℕ} {rows shared codes rows₁ codes₁ : List ℕ} (opened : Opened before rows shared codes) {q : Result ℕ Refused} (b : SectionPut (read_after before addon) before 0 rows rows₁ codes codes₁ q) where
  pub addon_decidable : {count : ℕ} → q ≡ Ok count → Decidable before count (both_codes shared codes₁) rows₁
  addon_decidable {count} e = go (read_got before (read_after before addon) b.answer e)
    where
      go : (more : List Group) × (stop : ℕ) × (read_after before addon ≡ got more stop) × (count ≡ before + length (joined more)) → Decidable before count (both_codes shared codes₁) rows₁
      go (more, stop, read', many) =
          let is = opened.many in
          rw (many, is)
          (over_decidable opened.library addon opened.room opened.own codes opened.gs opened.put opened.read opened.fine (rw is at opened.beside) (rw is at b) more (rw is at read') opened.enough.rows_enough)

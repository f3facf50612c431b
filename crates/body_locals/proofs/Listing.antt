-- The loop of `locals_at` and the definition `locals_at` walk the same entries: the locals that are done, put before what the
-- definition reads from here, are what it reads from the start; and the words that were put are the codes of those done.
use Prim.Native.Nat.{ℕ, zero, suc, ◌+◌, ◌-◌, ◌≤◌, ◌<◌}
use mathlib.Core.Path.{◌≡◌, refl, sym, ap, ◌∙◌}
use mathlib.Core.Bool.{Bool, true, false, cond}
use mathlib.Core.List.{List, [], ◌∷◌, ◌++◌, map, append_assoc, append-nil, map-append}
use native.Mathlib.Omega.{arith}
use lib.ListN.{length, replicate, length-append, length-map, length-replicate}
use lib.Dec.{ltb, leb}
use borrow.Author.Tests.{leb-true}
use Rattle.std.specs.Prelude.{Result, Ok, Err, IsErrAnd}
use Rattle.scope.specs.declared.Refused.{Refused}
use Rattle.scope.specs.Sizes.{most_locals}
use Rattle.scope.specs.Refusals.{oversize, out_of_reach}
use Rattle.scope.specs.Reading.{Read, got, refused, then}
use Rattle.scope.specs.Numbers.{u32}
use Rattle.scope.specs.Lists.{every}
use Rattle.scope.specs.Syntax.{Val}
use Rattle.scope.specs.Sections.{val_at}
use Rattle.scope.specs.TypeRules.{val_names}
use Rattle.scope.specs.Bodies.{locals_at}
use Rattle.scope.proofs.Impossible.{impossible}
use Rattle.scope.proofs.Told.{told_got, told_refused, passed}
use Rattle.type_table.proofs.Puts.{Puts, puts_more, puts_length}
use Rattle.type_table.proofs.CodesBack.{val_code-small}
use Rattle.type_read.specs.Codes.{val_code_kept}
use Rattle.section_forms.proofs.Lists.{onto}
use Rattle.body_locals.specs.declared.Entry.{Entry}
use Rattle.body_locals.specs.Entries.{Space, Lent, entry_at, entry_of, entry_is, LocalsPut}

-- an entry, taken apart

entry_inv : (o : Read (ℕ × Val)) {e : Entry} {next : ℕ} → Ok (e, next) ≡ entry_is o → (v : Val) × (o ≡ got (e.count, v) next) × (e.code ≡ val_code_kept v)
entry_inv o {e} {next} p =
    let (x, read, same) = told_got entry_of o p in
    let counted : x.0 ≡ e.count = sym (ap (λ (t : Entry). t.count) same) in
    (x.1, read ∙ ap (λ (k : ℕ). got (k, x.1) next) counted, ap (λ (t : Entry). t.code) same)

-- an entry that was read leaves no more than 256 locals

data FewRead (before : ℕ) : Read (ℕ × Val) → Type 0 where
  none_read : {n place : ℕ} → FewRead before (refused n place)
  few_read : {k : ℕ} {v : Val} {next : ℕ} → before + k ≤ most_locals → FewRead before (got (k, v) next)

entry_few_read : (types before : ℕ) (s : List ℕ) (at : ℕ) → FewRead before (entry_at types before s at)
unfolding entry_at
entry_few_read types before s at = go (u32 s at)
  where
    sized : (k : ℕ) (v : Val) (next : ℕ) (b : Bool) → leb (before + k) most_locals ≡ b → FewRead before (cond b (got (k, v) next) (refused oversize at))
    sized k v next true e = few_read (leb-true (before + k) most_locals e)
    sized k v next false e = none_read

    reached : (k : ℕ) (v : Val) (next : ℕ) (b : Bool) → FewRead before (cond b (cond (leb (before + k) most_locals) (got (k, v) next) (refused oversize at)) (refused out_of_reach at))
    reached k v next true = sized k v next (leb (before + k) most_locals) refl
    reached k v next false = none_read

    typed : (k : ℕ) (o : Read Val) → FewRead before (then o (λ v next. cond (every (λ x. ltb x types) (val_names v)) (cond (leb (before + k) most_locals) (got (k, v) next) (refused oversize at)) (refused out_of_reach at)))
    typed k (got v next) = reached k v next (every (λ x. ltb x types) (val_names v))
    typed k (refused n p) = none_read

    go : (o : Read ℕ) → FewRead before (then o (λ k type. then (val_at s type) (λ v next. cond (every (λ x. ltb x types) (val_names v)) (cond (leb (before + k) most_locals) (got (k, v) next) (refused oversize at)) (refused out_of_reach at))))
    go (got k type) = typed k (val_at s type)
    go (refused n p) = none_read

entry_few : {before : ℕ} {o : Read (ℕ × Val)} {k : ℕ} {v : Val} {next : ℕ} → FewRead before o → o ≡ got (k, v) next → before + k ≤ most_locals
entry_few none_read q = impossible cc
entry_few {before} {k = k} {v} {next} (few_read {k = j} {v = w} {next = n} h) q = let same : j ≡ k = ap counted q in omega arith
  where
    counted : Read (ℕ × Val) → ℕ
    counted (got e m) = e.0
    counted (refused m p) = 0

-- the definition, entry by entry

locals_entry : (types n before : ℕ) (s : List ℕ) (at : ℕ) → locals_at types (suc n) before s at ≡ then (entry_at types before s at) (λ e next. then (locals_at types n (before + e.0) s next) (λ vs stop. got (replicate e.0 e.1 ++ vs) stop))
unfolding locals_at entry_at
locals_entry types n before s at = go (u32 s at)
  where
    more : ℕ × Val → ℕ → Read (List Val)
    more e next = then (locals_at types n (before + e.0) s next) (λ vs stop. got (replicate e.0 e.1 ++ vs) stop)

    tested : (k : ℕ) (v : Val) (next : ℕ) (a b : Bool) → cond a (cond b (more (k, v) next) (refused oversize at)) (refused out_of_reach at) ≡ then (cond a (cond b (got (k, v) next) (refused oversize at)) (refused out_of_reach at)) more
    tested k v next true true = refl
    tested k v next true false = refl
    tested k v next false b = refl

    typed : (k : ℕ) (o : Read Val) → then o (λ v next. cond (every (λ x. ltb x types) (val_names v)) (cond (leb (before + k) most_locals) (more (k, v) next) (refused oversize at)) (refused out_of_reach at)) ≡ then (then o (λ v next. cond (every (λ x. ltb x types) (val_names v)) (cond (leb (before + k) most_locals) (got (k, v) next) (refused oversize at)) (refused out_of_reach at))) more
    typed k (got v next) = tested k v next (every (λ x. ltb x types) (val_names v)) (leb (before + k) most_locals)
    typed k (refused m p) = refl

    go : (o : Read ℕ) → then o (λ k type. then (val_at s type) (λ v next. cond (every (λ x. ltb x types) (val_names v)) (cond (leb (before + k) most_locals) (more (k, v) next) (refused oversize at)) (refused out_of_reach at))) ≡ then (then o (λ k type. then (val_at s type) (λ v next. cond (every (λ x. ltb x types) (val_names v)) (cond (leb (before + k) most_locals) (got (k, v) next) (refused oversize at)) (refused out_of_reach at)))) more
    go (got k type) = typed k (val_at s type)
    go (refused m p) = refl

locals-none : (types left before : ℕ) (s : List ℕ) (at : ℕ) → left ≤ 0 → locals_at types left before s at ≡ got [] at
unfolding locals_at
locals-none types zero before s at h = refl
locals-none types (suc left) before s at h = absurd (omega arith)

locals_refused : (types left before : ℕ) (s : List ℕ) (at : ℕ) {k place : ℕ} → 0 < left → entry_at types before s at ≡ refused k place → locals_at types left before s at ≡ refused k place
locals_refused types zero before s at h e = absurd (omega arith)
locals_refused types (suc left) before s at h e = locals_entry types left before s at ∙ rw e

locals_more : (types left before : ℕ) (s : List ℕ) (at : ℕ) {k : ℕ} {v : Val} {next : ℕ} → 0 < left → entry_at types before s at ≡ got (k, v) next → locals_at types left before s at ≡ then (locals_at types (left - 1) (before + k) s next) (λ vs stop. got (replicate k v ++ vs) stop)
locals_more types zero before s at h e = absurd (omega arith)
locals_more types (suc left) before s at h e = let same : suc left - 1 ≡ left = omega arith in locals_entry types left before s at ∙ rw (e, same)

-- the loop

onto_several : (done several : List Val) (o : Read (List Val)) → onto done (then o (λ vs stop. got (several ++ vs) stop)) ≡ onto (done ++ several) o
onto_several done several (got vs stop) = simp append_assoc
onto_several done several (refused n p) = refl

map_replicate : (k : ℕ) (v : Val) → replicate k (val_code_kept v) ≡ map val_code_kept (replicate k v)
map_replicate zero v = refl
map_replicate (suc k) v = ap (λ (xs : List ℕ). val_code_kept v ∷ xs) (map_replicate k v)

val_small : (v : Val) → val_code_kept v ≤ 16_407
unfolding val_code_kept
val_small v = val_code-small v

pub record Listed (types n before : ℕ) (s : List ℕ) (at : ℕ) (work₀ work : List ℕ) (first next left count : ℕ) : Type 0 where
  pub done : List Val
  pub counted : before + length done ≡ count
  pub few : count ≤ most_locals
  pub same : locals_at types n before s at ≡ onto done (locals_at types left count s next)
  pub puts : Puts work₀ work (first + before) (map val_code_kept done)

module _ {types n before : ℕ} {s : List ℕ} {at : ℕ} {work₀ work : List ℕ} {first next left count : ℕ} (p : Listed types n before s at work₀ work first next left count) where
  pub listed-done : left ≤ 0 → LocalsPut types n before s at work₀ work first (Ok (count, next))
  listed-done h =
      let all : locals_at types n before s at ≡ got (p.done ++ []) next = p.same ∙ ap (onto p.done) (locals-none types left count s next h) in
      let long : before + length (p.done ++ []) ≡ count = simp append-nil p.counted in
      record {
        answer = rw (all, long);
        memory = λ vs stop f. let q : p.done ++ [] ≡ vs = cc in rw (← q, append-nil) p.puts;
        size = puts_length p.puts;
      }

  module _ (more : 0 < left) where
    pub listed_refused : {no : Refused} → Err no ≡ entry_is (entry_at types count s next) → {r : Result (ℕ × ℕ) Refused} → IsErrAnd r (λ e. e ≡ no) → LocalsPut types n before s at work₀ work first r
    listed_refused {no} a is =
        let all : locals_at types n before s at ≡ refused no.number no.at = p.same ∙ ap (onto p.done) (locals_refused types left count s next more (told_refused entry_of (entry_at types count s next) a)) in
        record {
          answer = passed is (rw all);
          memory = λ vs stop f. impossible cc;
          size = puts_length p.puts;
        }

    module _ {e : Entry} {following : ℕ} (a : Ok (e, following) ≡ entry_is (entry_at types count s next)) where
      entry_most : count + e.count ≤ most_locals
      entry_most = let (v, read, c) = entry_inv (entry_at types count s next) a in entry_few (entry_few_read types count s next) read

      pub listed_space : Lent work₀ types before first → Space work (first + count) e.count e.code
      listed_space lent =
          let h = entry_most in
          let (v, read, c) = entry_inv (entry_at types count s next) a in
          let b = val_small v in
          let size : length work ≡ length work₀ = puts_length p.puts in
          record { room = omega (arith, lent.room); small = omega arith }

      turn : {work' : List ℕ} (v : Val) → entry_at types count s next ≡ got (e.count, v) following → e.code ≡ val_code_kept v → Puts work work' (first + count) (replicate e.count e.code) → Listed types n before s at work₀ work' first following (left - 1) (count + e.count)
      turn {work'} v read c q =
          let h = entry_most in
          let where-put : first + before + length (map val_code_kept p.done) ≡ first + count = ap (λ (x : ℕ). first + before + x) (length-map p.done val_code_kept) ∙ (omega (arith, p.counted)) in
          let codes : replicate e.count e.code ≡ map val_code_kept (replicate e.count v) = ap (replicate e.count) c ∙ map_replicate e.count v in
          let later : Puts work work' (first + before + length (map val_code_kept p.done)) (map val_code_kept (replicate e.count v)) = rw (where-put, ← codes) q in
          record {
            done = p.done ++ replicate e.count v;
            counted = ap (λ (x : ℕ). before + x) (length-append p.done (replicate e.count v)) ∙ simp length-replicate (omega (arith, p.counted));
            few = h;
            same =
                p.same
                ∙ ap (onto p.done) (locals_more types left count s next more read)
                ∙ onto_several p.done (replicate e.count v) (locals_at types (left - 1) (count + e.count) s following);
            puts = rw (map-append) (puts_more p.puts later);
          }

      pub listed_turn : {work' : List ℕ} → Puts work work' (first + count) (replicate e.count e.code) → Listed types n before s at work₀ work' first following (left - 1) (count + e.count)
      listed_turn q = let (v, read, c) = entry_inv (entry_at types count s next) a in turn v read c q

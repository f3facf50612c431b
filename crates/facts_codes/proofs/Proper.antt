-- Every instruction that is read is proper. A number below zero is not minus 0, so its pattern fits; a float's n bytes are below 256 ^ n; a numeric code is read where the ranges know it, and so it
-- is in the list. All other rows of the two tables of codes have nothing to show.
use Prim.Native.Nat.{ℕ, zero, suc, ◌+◌, ◌-◌, ◌*◌, ◌^◌, ◌<◌}
use native.Mathlib.Omega.{arith}
use native.Mathlib.Nat.{pow-suc}
use mathlib.Core.Path.{◌≡◌, refl, subst}
use mathlib.Core.Bool.{Bool, true, false, cond}
use mathlib.Core.Option.{Option, none, some}
use mathlib.Core.List.{List, [], ◌∷◌}
use lib.ListN.{get_elem?}
use lib.Dec.{eqb}
use Rattle.scope.specs.Reading.{Read, got, refused, Reader, given, on_byte}
use Rattle.scope.specs.Refusals.{bytes_end}
use Rattle.scope.specs.Numbers.{Whole, bits32, bits64, little_endian, float_bytes, u32, s32, s64, float32, float64}
use Rattle.scope.specs.Syntax.{Val}
use Rattle.scope.specs.Sections.{heap_at}
use Rattle.scope.specs.Numeric.{Numeric, numeric_of}
use Rattle.scope.specs.Instructions.{Op, i32_const, i64_const, f32_const, f64_const, numeric, Instr, bare, having, having_two, block_type_at, cast_at, opening, closing, first_bytes, after_fb, find, instr_at}
use Rattle.scope.proofs.Impossible.{impossible}
use Rattle.scope.proofs.WholeNumbers.{Within, above_zero, below-zero, signed-within}
use Rattle.scope.proofs.Telling.{Gives, gives_this, gives_nothing, gives_then, gives_either}
use Rattle.facts_codes.specs.Numeric.{code}
use Rattle.facts_codes.specs.Proper.{AreBytes, CodeListed, code_listed, ProperOp, Proper}
use Rattle.facts_codes.proofs.Numeric.{numeric-listed}

-- numbers

fits_32 : {w : Whole} → Within 32 w → bits32 w < 2 ^ 32
fits_32 (above_zero h) = omega arith
fits_32 (below-zero p h) = omega arith

fits_64 : {w : Whole} → Within 64 w → bits64 w < 2 ^ 64
fits_64 (above_zero h) = omega arith
fits_64 (below-zero p h) = omega arith

-- floats

one_byte_more : (n b w : ℕ) → b < 256 → w < 256 ^ n → b + 256 * w < 256 ^ suc n
one_byte_more n b w h l = rw (pow-suc 256 n) (go (256 ^ n) l)
  where
    go : (x : ℕ) → w < x → b + 256 * w < x * 256
    go x l = omega arith

same_some : {x y : ℕ} → some x ≡ some y → x ≡ y
same_some e = cc

little_small : {s : List ℕ} → AreBytes s → (n at : ℕ) {v : ℕ} → little_endian n s at ≡ some v → v < 256 ^ n
unfolding little_endian
little_small bytes zero at {v} e = let z : ◌≡◌ {A = ℕ} 0 v = same_some e in omega arith
little_small {s} bytes (suc n) at {v} e = go (get_elem? s at) refl (little_endian n s (at + 1)) (λ w f. little_small bytes n (at + 1) f) e
  where
    go : (o : Option ℕ) → get_elem? s at ≡ o → (higher : Option ℕ) → ((w : ℕ) → higher ≡ some w → w < 256 ^ n)
        → given o none (λ b. given higher none (λ w. some (b + 256 * w))) ≡ some v → v < 256 ^ suc n
    go none there higher k e = impossible cc
    go (some b) there none k e = impossible cc
    go (some b) there (some w) k e = subst (λ (x : ℕ). x < 256 ^ suc n) (same_some e) (one_byte_more n b w (bytes.small at there) (k w refl))

float_small : {s : List ℕ} → AreBytes s → (n at : ℕ) → Gives (λ v. v < 256 ^ n) (float_bytes n s at)
unfolding float_bytes
float_small {s} bytes n at = go (little_endian n s at) refl
  where
    go : (o : Option ℕ) → little_endian n s at ≡ o → Gives (λ v. v < 256 ^ n) (given o (refused bytes_end at) (λ v. got v (at + n)))
    go none e = gives_nothing
    go (some v) e = gives_this (little_small bytes n at e)

-- numeric codes

pub listed_at : (b : ℕ) {kinds : Numeric} → numeric_of b ≡ some kinds → CodeListed b
listed_at b e =
    let (line, among, byte) = numeric-listed b e in
    subst CodeListed byte (code_listed {ks = line.typed.takes} {r = line.typed.gives} among)

-- the rows of the two tables

module _ (s : List ℕ) where
  abbrev Proves : Reader Instr → Type 0
  Proves r = (at : ℕ) → Gives (Proper s) (r s at)

  bare_proper : (o : Op) → ProperOp s o → Proves (bare o)
  bare_proper o h at = gives_this h

  closing_proper : Proves closing
  closing_proper at = gives_this tt

  opening_proper : (make : List Val → Instr) → ((rs : List Val) → Proper s (make rs)) → Proves (opening make)
  opening_proper make h at = gives_then (block_type_at s at) (λ rs next e. gives_this (h rs))

  having_proper : {A : Type 0} (one : Reader A) (make : A → Op) → ((at : ℕ) (x : A) (next : ℕ) → one s at ≡ got x next → ProperOp s (make x)) → Proves (having one make)
  having_proper one make h at = gives_then (one s at) (λ x next e. gives_this (h at x next e))

  having-two_proper : (make : ℕ → ℕ → Op) → ((x y : ℕ) → ProperOp s (make x y)) → Proves (having_two make)
  having-two_proper make h at = gives_then (u32 s at) (λ x next e. gives_then (u32 s next) (λ y stop f. gives_this (h x y)))

  data Rows : List (ℕ × Reader Instr) → Type 0 where
    none_left_lem : Rows []
    row_and : {code : ℕ} {r : Reader Instr} {more : List (ℕ × Reader Instr)} → Proves r → Rows more → Rows ((code, r) ∷ more)

  plain_proper : {A : Type 0} (one : Reader A) (make : A → Op) → ((x : A) → ProperOp s (make x)) → Proves (having one make)
  plain_proper one make h = having_proper one make (λ at x next e. h x)

  first_rows : Rows first_bytes
  first_rows =
      row_and (bare_proper _ tt)
      (row_and (bare_proper _ tt)
      (row_and (opening_proper _ (λ rs. tt))
      (row_and (opening_proper _ (λ rs. tt))
      (row_and closing_proper
      (row_and (plain_proper u32 _ (λ x. tt))
      (row_and (plain_proper u32 _ (λ x. tt))
      (row_and (bare_proper _ tt)
      (row_and (bare_proper _ tt)
      (row_and (plain_proper u32 _ (λ x. tt))
      (row_and (plain_proper u32 _ (λ x. tt))
      (row_and (plain_proper u32 _ (λ x. tt))
      (row_and (having_proper s32 (λ n. i32_const (bits32 n)) (λ at w next e. fits_32 ((signed-within s 32 at).tells w next e)))
      (row_and (having_proper s64 (λ n. i64_const (bits64 n)) (λ at w next e. fits_64 ((signed-within s 64 at).tells w next e)))
      (row_and (having_proper float32 f32_const (λ at v next e bytes. (float_small bytes 4 at).tells v next e))
      (row_and (having_proper float64 f64_const (λ at v next e bytes. (float_small bytes 8 at).tells v next e))
      (row_and (plain_proper heap_at _ (λ h. tt))
      (row_and (bare_proper _ tt)
      (row_and (bare_proper _ tt)
      (row_and (bare_proper _ tt)
      none_left_lem)))))))))))))))))))

  later_rows : Rows after_fb
  later_rows =
      row_and (plain_proper u32 _ (λ x. tt))
      (row_and (plain_proper u32 _ (λ x. tt))
      (row_and (having-two_proper _ (λ x y. tt))
      (row_and (having-two_proper _ (λ x y. tt))
      (row_and (plain_proper heap_at _ (λ h. tt))
      (row_and (plain_proper heap_at _ (λ h. tt))
      (row_and (plain_proper heap_at _ (λ h. tt))
      (row_and (plain_proper heap_at _ (λ h. tt))
      (row_and (plain_proper cast_at _ (λ k. tt))
      (row_and (plain_proper cast_at _ (λ k. tt))
      (row_and (plain_proper u32 _ (λ x. tt))
      (row_and (plain_proper u32 _ (λ x. tt))
      (row_and (plain_proper u32 _ (λ x. tt))
      (row_and (plain_proper heap_at _ (λ h. tt))
      (row_and (plain_proper heap_at _ (λ h. tt))
      (row_and (plain_proper cast_at _ (λ k. tt))
      (row_and (plain_proper cast_at _ (λ k. tt))
      none_left_lem))))))))))))))))

  found_proper : (b : ℕ) {rows : List (ℕ × Reader Instr)} → Rows rows → {other : Read Instr} (at : ℕ) → Gives (Proper s) other → Gives (Proper s) (given (find b rows) other (λ r. r s at))
  found_proper b none_left_lem at o = o
  found_proper b (row_and {code} {r} {more} k rest) {other} at o = go (eqb b code) (found_proper b rest at o)
    where
      go : (t : Bool) → Gives (Proper s) (given (find b more) other (λ q. q s at)) → Gives (Proper s) (given (cond t (some r) (find b more)) other (λ q. q s at))
      go true later = k at
      go false later = later

  numeric_proper : (b number place next : ℕ) → Gives (Proper s) (given (numeric_of b) (refused number place) (λ kinds. bare (numeric b) s next))
  numeric_proper b number place next = go (numeric_of b) refl
    where
      go : (o : Option Numeric) → numeric_of b ≡ o → Gives (Proper s) (given o (refused number place) (λ kinds. bare (numeric b) s next))
      go none e = gives_nothing
      go (some kinds) e = gives_this (listed_at b e)

  on_byte_lem : (at : ℕ) (f : ℕ → Read Instr) → ((b : ℕ) → Gives (Proper s) (f b)) → Gives (Proper s) (on_byte s at f)
  on_byte_lem at f k = go (get_elem? s at)
    where
      go : (o : Option ℕ) → Gives (Proper s) (given o (refused bytes_end at) f)
      go none = gives_nothing
      go (some b) = k b

  pub instr_proper : (at : ℕ) → Gives (Proper s) (instr_at s at)
  unfolding instr_at
  instr_proper at =
      on_byte_lem at _ (λ b.
      gives_either (eqb b 0xFB)
      (gives_then (u32 s (at + 1)) (λ n next e. found_proper n later_rows next gives_nothing))
      (found_proper b first_rows (at + 1) (numeric_proper b _ _ (at + 1))))

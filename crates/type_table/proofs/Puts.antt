-- Words written into lent memory, one piece after the other. `Puts m m' at ws` says that m' is m with the words ws from
-- `at` on: what stands before and what stands after them is m's. So the next piece, written where these words end, finds
-- the first piece before it and m's own words after it, and the two pieces are one; and a part of m keeps what is before it.
use Prim.Native.Nat.{ℕ, zero, suc, ◌+◌, ◌-◌, ◌<◌, ◌≤◌}
use native.Mathlib.Nat.{add-zero, add_assoc, zero-add, sub-zero, zero-sub, suc-sub-suc}
use native.Mathlib.Numerals.{add-one}
use native.Mathlib.Omega.{arith}
use mathlib.Core.Path.{◌≡◌, ap, ap₂, ◌∙◌}
use mathlib.Core.List.{List, [], ◌∷◌, ◌++◌, append_assoc, append-nil}
use lib.ListN.{length, take, drop, set, replicate, length-append, length-take, length-drop, take-append-drop}
use lib.Seq.{set_split, take_at, drop_at, drop-drop, take-add}

pub record Puts (m m' : List ℕ) (at : ℕ) (ws : List ℕ) : Type 0 where
  pub room : at + length ws ≤ length m
  pub is : m' ≡ take at m ++ ws ++ drop (at + length ws) m

pub puts_none : (m : List ℕ) (at : ℕ) → at ≤ length m → Puts m m at []
puts_none m at h = record { room = omega arith; is = simp (append-nil, add-zero, take-append-drop) }

pub puts_one : (m : List ℕ) (at w : ℕ) → at < length m → Puts m (set m at w) at (w ∷ [])
puts_one m at w h = record { room = omega arith; is = set_split m at w h ∙ simp (append_assoc, add-one) }

pub puts_length : {m m' : List ℕ} {at : ℕ} {ws : List ℕ} → Puts m m' at ws → length m' ≡ length m
puts_length {m} {m'} {at} {ws} p = ap length p.is ∙ simp (length-append, length-take, length-drop) (omega arith)

module _ {m m' : List ℕ} {at : ℕ} {ws : List ℕ} (p : Puts m m' at ws) where
  front_length : length (take at m ++ ws) ≡ at + length ws
  front_length = simp (length-append, length-take) (omega arith)

  -- what is before the end of the words
  pub puts_before : take (at + length ws) m' ≡ take at m ++ ws
  puts_before = ap (take (at + length ws)) p.is ∙ take_at (take at m ++ ws) (drop (at + length ws) m) (at + length ws) front_length

  -- what is after them
  pub puts_after : drop (at + length ws) m' ≡ drop (at + length ws) m
  puts_after = ap (drop (at + length ws)) p.is ∙ drop_at (take at m ++ ws) (drop (at + length ws) m) (at + length ws) front_length

  pub puts_more : {m'' : List ℕ} {vs : List ℕ} → Puts m' m'' (at + length ws) vs → Puts m m'' at (ws ++ vs)
  puts_more {m''} {vs} q =
      let room : at + length (ws ++ vs) ≤ length m = simp length-append (omega (arith, q.room, puts_length p)) in
      let behind : drop (at + length ws + length vs) m' ≡ drop (at + length (ws ++ vs)) m =
      rw (← drop-drop (length vs) (at + length ws) m', puts_after, drop-drop (length vs) (at + length ws) m, length-append ws vs, add_assoc) in
      record { room = room; is = q.is ∙ ap₂ (λ x y. x ++ vs ++ y) puts_before behind ∙ simp append_assoc }

pub drop_replicate : (k n a : ℕ) → drop k (replicate n a) ≡ replicate (n - k) a
drop_replicate zero n a = simp sub-zero
drop_replicate (suc k) zero a = simp zero-sub
drop_replicate (suc k) (suc n) a = drop_replicate k n a ∙ simp suc-sub-suc

pub puts_zero : (n : ℕ) {m' ws : List ℕ} → Puts (replicate n 0) m' 0 ws → m' ≡ ws ++ replicate (n - length ws) 0
puts_zero n {m'} {ws} p = p.is ∙ simp (zero-add, drop_replicate)

-- words written into the part of m from k on
pub puts_part : (m : List ℕ) {m' part' : List ℕ} (k : ℕ) {at : ℕ} {ws : List ℕ} → k ≤ length m → m' ≡ take k m ++ part' → Puts (drop k m) part' at ws → Puts m m' (k + at) ws
puts_part m {m'} {part'} k {at} {ws} h e p =
    let room : k + at + length ws ≤ length m = omega (arith, length-drop k m) in
    record { room = room; is = e ∙ ap (λ x. take k m ++ x) p.is ∙ simp (drop-drop, take-add, append_assoc, add_assoc) }

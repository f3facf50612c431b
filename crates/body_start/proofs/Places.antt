-- Words that were put, place by place: a piece stands where it was put, and every other word is as it was.
use Prim.Native.Nat.{ℕ, ◌+◌, ◌-◌, ◌≤◌, ◌<◌}
use mathlib.Core.Path.{◌≡◌, sym, ap, ◌∙◌}
use mathlib.Core.List.{List, ◌++◌}
use native.Mathlib.Omega.{arith}
use lib.ListN.{length, take, drop, get_or, length-append, get_or-append}
use lib.Seq.{length-take-le, get_or-append-add, get_or-take, get_or-drop}
use Rattle.type_table.proofs.Puts.{Puts}

module _ {m m' : List ℕ} {at : ℕ} {ws : List ℕ} (p : Puts m m' at ws) where
  front : length (take at m) ≡ at
  front = length-take-le at m (omega (arith, p.room))

  both : length (take at m ++ ws) ≡ at + length ws
  both = length-append (take at m) ws ∙ ap (λ (n : ℕ). n + length ws) front

  -- a place before the end of the words
  early : (i : ℕ) → i < at + length ws → get_or m' i 0 ≡ get_or (take at m ++ ws) i 0
  early i h = ap (λ (l : List ℕ). get_or l i 0) p.is ∙ get_or-append (take at m ++ ws) (drop (at + length ws) m) 0 i (omega (arith, both))

  pub put_here : (k : ℕ) → k < length ws → get_or m' (at + k) 0 ≡ get_or ws k 0
  put_here k h =
      early (at + k) (omega arith)
      ∙ ap (λ (n : ℕ). get_or (take at m ++ ws) (n + k) 0) (sym front)
      ∙ get_or-append-add (take at m) ws k 0

  pub put_before : (i : ℕ) → i < at → get_or m' i 0 ≡ get_or m i 0
  put_before i h =
      early i (omega arith) ∙ get_or-append (take at m) ws 0 i (omega (arith, front)) ∙ get_or-take at m i 0 h

  pub put-beyond : (i : ℕ) → at + length ws ≤ i → get_or m' i 0 ≡ get_or m i 0
  put-beyond i h =
      let j : ℕ = i - (at + length ws) in
      let place : at + length ws + j ≡ i = omega arith in
      let there : get_or m' (at + length ws + j) 0 ≡ get_or m (at + length ws + j) 0 =
      ap (λ (l : List ℕ). get_or l (at + length ws + j) 0) p.is
      ∙ ap (λ (n : ℕ). get_or (take at m ++ ws ++ drop (at + length ws) m) (n + j) 0) (sym both)
      ∙ get_or-append-add (take at m ++ ws) (drop (at + length ws) m) j 0
      ∙ get_or-drop (at + length ws) m j 0 in
      rw place at there

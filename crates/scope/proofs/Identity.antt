-- "Identical" is equal: what the test of two heap types or two value types says, both ways.
use mathlib.Core.Path.{◌≡◌, refl, ap}
use mathlib.Core.Bool.{true, false, false≢true}
use borrow.Author.Tests.{eqb-true, eq-eqb}
use Rattle.scope.specs.Syntax.{Heap, abstract, defined, exact, Val, num, ref}
use Rattle.scope.specs.Order.{number_code, same_heap, same_val}
use Rattle.scope.proofs.TenRows.{same_equal, equal_same}
use Rattle.scope.proofs.Order.{same_number_equal}

same_heap_equal : (h k : Heap) → same_heap h k ≡ true → h ≡ k
unfolding same_heap
same_heap_equal (abstract a) (abstract b) e = ap abstract (same_equal a b e)
same_heap_equal (abstract a) (defined y) e = absurd (false≢true e)
same_heap_equal (abstract a) (exact y) e = absurd (false≢true e)
same_heap_equal (defined x) (abstract b) e = absurd (false≢true e)
same_heap_equal (defined x) (defined y) e = ap defined (eqb-true x y e)
same_heap_equal (defined x) (exact y) e = absurd (false≢true e)
same_heap_equal (exact x) (abstract b) e = absurd (false≢true e)
same_heap_equal (exact x) (defined y) e = absurd (false≢true e)
same_heap_equal (exact x) (exact y) e = ap exact (eqb-true x y e)

heap_same : (h : Heap) → same_heap h h ≡ true
unfolding same_heap
heap_same (abstract a) = equal_same a a refl
heap_same (defined x) = eq-eqb x x refl
heap_same (exact x) = eq-eqb x x refl

pub same_value_equal : (v w : Val) → same_val v w ≡ true → v ≡ w
unfolding same_val
same_value_equal (num a) (num b) e = ap num (same_number_equal a b e)
same_value_equal (num a) (ref m k) e = absurd (false≢true e)
same_value_equal (ref n h) (num b) e = absurd (false≢true e)
same_value_equal (ref true h) (ref true k) e = ap (ref true) (same_heap_equal h k e)
same_value_equal (ref true h) (ref false k) e = absurd (false≢true e)
same_value_equal (ref false h) (ref true k) e = absurd (false≢true e)
same_value_equal (ref false h) (ref false k) e = ap (ref false) (same_heap_equal h k e)

pub value_same : (v : Val) → same_val v v ≡ true
unfolding same_val
value_same (num a) = eq-eqb (number_code a) (number_code a) refl
value_same (ref true h) = heap_same h
value_same (ref false h) = heap_same h

-- The page of specs/Laws.antt, cited from what proves each.
use Prim.Native.Nat.{ℕ, suc}
use native.Mathlib.Omega.{arith}
use Rattle.scope.specs.Rounding.{Width, single, double}
use Rattle.facts_floats.specs.Standard.{Proper}
use Rattle.facts_floats.specs.Laws.{FloatLaws, IntegerLaws}
use Rattle.scope.proofs.Rounds.{rounded_nearest, nearest_unique}
use Rattle.facts_floats.proofs.Halfway.{nearest_halfway, halfway_nearest}
use Rattle.facts_floats.proofs.Bounds.{overflows, overflows_only, vanishes, vanishes_only}
use Rattle.facts_floats.proofs.Sums.{sum_is, sum_only}
use Rattle.facts_floats.proofs.Negations.{neg_fits, negation_is, negation_only, difference_is, difference_only}
use Rattle.facts_floats.proofs.Products.{product_is, product_only, quotient_is, quotient_only}
use Rattle.facts_floats.proofs.Finite.{sum_once_alike, sum_once_first, sum_once_second, product_once, quotient_once}
use Rattle.facts_floats.proofs.Fits as Fits
use Rattle.facts_floats.proofs.Comparisons.{less_true, true_less, equal_true, true_equal, only_unequal_first, only_unequal_second, at_most_not_greater, at_least_not_less}
use Rattle.facts_floats.proofs.Integers.{add-fits, add_within, add_around, sub-fits, sub_within, sub_around, signed_less, less_signed_lem, at_most_signed}

pub float_laws : (w : Width) → Proper w → FloatLaws w
float_laws w proper =
    record {
      nearest = λ n d h. rounded_nearest w n d h proper.some_digit;
      one_nearest = λ n d r s h p q. nearest_unique w n d h proper.some_digit p q;
      halfway = λ n d r h p. nearest_halfway w n d h p;
      by_halfway = λ n d r h p. halfway_nearest w n d h p;
      overflow = λ n d D h. overflows w proper n d D h;
      overflow_only = λ n d D e. overflows_only w proper n d D e;
      vanish = λ n d D h. vanishes w proper n d D h;
      vanish_only = λ n d D e. vanishes_only w proper n d D e;
      sums = record { said = λ a b h k. sum_is w proper h k; only = λ a b r l. sum_only w proper l };
      differences = record { said = λ a b h k. difference_is w proper h k; only = λ a b r l. difference_only w proper l };
      products = record { said = λ a b h k. product_is w proper h k; only = λ a b r l. product_only w proper l };
      quotients = record { said = λ a b h k. quotient_is w proper h k; only = λ a b r l. quotient_only w proper l };
      sum_alike = λ a b f g e. sum_once_alike w proper f g e;
      sum_first = λ a b f g e l. sum_once_first w proper f g e l;
      sum_second = λ a b f g e l. sum_once_second w proper f g e l;
      product = λ a b f g. product_once w proper f g;
      quotient = λ a b f g z. quotient_once w proper f g z;
      add-fits = λ a b h k. Fits.add-fits w proper h k;
      sub-fits = λ a b h k. Fits.sub-fits w proper h k;
      mul-fits = λ a b h k. Fits.mul-fits w proper h k;
      div-fits = λ a b h k. Fits.div-fits w proper h k;
      neg_fits = λ b. neg_fits w b;
      negations = λ b h. negation_is w h;
      one_negation = λ b r l. negation_only w l;
      equals = record { holds = λ a b l. equal_true w proper l; said = λ a b h k e. true_equal w proper h k e };
      lesses = record { holds = λ a b l. less_true w proper l; said = λ a b h k e. true_less w proper h k e };
      nan_first = λ s p b h. only_unequal_first w s h b;
      nan_second = λ s p a h. only_unequal_second w s h a;
      at_most = λ a b h k. at_most_not_greater w a b h k;
      at_least = λ a b h k. at_least_not_less w a b h k;
    }

pub single_proper : Proper single
single_proper = record { some_exponent = omega arith; some_digit = omega arith }

pub double_proper : Proper double
double_proper = record { some_exponent = omega arith; some_digit = omega arith }

pub f32_laws : FloatLaws single
f32_laws = float_laws single single_proper

pub f64_laws : FloatLaws double
f64_laws = float_laws double double_proper

pub integer_laws : (n : ℕ) → IntegerLaws n
integer_laws n =
    record {
      add-fits = add-fits (suc n);
      add_within = λ a b h k l. add_within (suc n) h k l;
      add_around = λ a b h k l. add_around (suc n) h k l;
      sub-fits = sub-fits (suc n);
      sub_within = λ a b h k l. sub_within (suc n) h k l;
      sub_around = λ a b h k l. sub_around (suc n) h k l;
      signed_less = λ a b h k e. signed_less n h k e;
      less_signed_lem = λ a b h k l. less_signed_lem n h k l;
      at_most = at_most_signed (suc n);
    }

pub i32_laws : IntegerLaws 31
i32_laws = integer_laws 31

pub i64_laws : IntegerLaws 63
i64_laws = integer_laws 63

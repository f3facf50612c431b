-- Each row of specs/Codes.antt is read as it says, or refused as it says. The checker computes the reader.
use mathlib.Core.Path.{◌≡◌, refl}
use mathlib.Core.List.{[], ◌∷◌, map}
use Rattle.scope.specs.Refusals.{not_listed}
use Rattle.scope.specs.Reading.{refused}
use Rattle.scope.specs.Instructions.{instr_at}
use Rattle.scope.proofs.Computes.{computes}
use Rattle.facts_codes.specs.Codes.{AllRead, none_left_lem, also_read, listed, numeric_read, unlisted, numbers_fb, two_bytes_fb, faulty}
use Rattle.facts_codes.specs.Numeric.{upward}

pub all_read : AllRead listed
unfolding computes
all_read =
    also_read refl
    (also_read refl
    (also_read refl
    (also_read refl
    (also_read refl
    (also_read refl
    (also_read refl
    (also_read refl
    (also_read refl
    (also_read refl
    (also_read refl
    (also_read refl
    (also_read refl
    (also_read refl
    (also_read refl
    (also_read refl
    (also_read refl
    (also_read refl
    (also_read refl
    (also_read refl
    (also_read refl
    (also_read refl
    (also_read refl
    (also_read refl
    (also_read refl
    (also_read refl
    (also_read refl
    (also_read refl
    (also_read refl
    (also_read refl
    (also_read refl
    (also_read refl
    (also_read refl
    (also_read refl
    (also_read refl
    (also_read refl
    (also_read refl
    (also_read refl
    (also_read refl
    (also_read refl
    (also_read refl
    (also_read refl
    (also_read refl
    (also_read refl
    (also_read refl
    (also_read refl
    (also_read refl
    (also_read refl
    (also_read refl
    (also_read refl
    none_left_lem)))))))))))))))))))))))))))))))))))))))))))))))))

pub numeric_read_lem : map (λ b. instr_at (b ∷ []) 0) (upward 0x45 128) ≡ numeric_read
unfolding computes
numeric_read_lem = refl

pub unlisted_refused : map (λ b. instr_at (b ∷ []) 0) unlisted ≡ map (λ b. refused not_listed 0) unlisted
unfolding computes
unlisted_refused = refl

pub faulty_refused : map (λ r. instr_at r.bytes 0) faulty ≡ map (λ r. r.says) faulty
unfolding computes
faulty_refused = refl

-- every number after FB up to 255
pub fb_one_byte : map (λ n. instr_at (0xFB ∷ n ∷ []) 0) (upward 0 128) ≡ numbers_fb
unfolding computes
fb_one_byte = refl

pub fb_two-bytes : map (λ n. instr_at (0xFB ∷ n ∷ 0x01 ∷ []) 0) (upward 128 128) ≡ two_bytes_fb
unfolding computes
fb_two-bytes = refl

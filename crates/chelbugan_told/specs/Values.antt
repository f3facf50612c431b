-- What a host is told of an answer: its kind as the number returned, and its values as four words, of which the fourth is 0.
-- A refusal is kind 0 with its number, its place and the input in which that lies; yes is kind 1 with what was counted, or where
-- the bytes lie and in which input. A run that is done is kind 1, a trap kind 2, a spent budget kind 3.
use Rattle.std.specs.Prelude.{ℕ, ◌≡◌, List, [], ◌∷◌}
use Rattle.scope.specs.Told.{no_in}
use Rattle.std.specs.Prelude.{Result, Ok, Err}
use Rattle.scope.specs.declared.Rejected.{Rejected}
use Rattle.scope.specs.Judging.{place_number, place_input, in_library, in_addon}
use Rattle.scope.specs.declared.Place.{Place}
use Rattle.scope.specs.declared.Asked.{Asked}
use Rattle.scope.specs.declared.Asked
use Rattle.scope.specs.declared.Ran.{Ran}
use Rattle.scope.specs.declared.Ran

-- a refusal's number, its place, and in which input that lies: 1 the library, 2 the add-on, 0 none
abbrev pub refusal_values : ℕ → Place → List ℕ
refusal_values number place = number ∷ place_number place ∷ place_input place ∷ 0 ∷ []

-- what each call tells of a refusal
pub record RefusalTold (number : ℕ) (place : Place) (r : ℕ) (answer' : List ℕ) : Type 0 where
  pub kind : r ≡ 0
  pub values : answer' ≡ refusal_values number place

abbrev pub verdict_kind : Result ℕ Rejected → ℕ
verdict_kind (Ok count) = 1
verdict_kind (Err why) = 0

abbrev pub verdict_values : Result ℕ Rejected → List ℕ
verdict_values (Ok count) = count ∷ 0 ∷ 0 ∷ 0 ∷ []
verdict_values (Err why) = refusal_values why.number why.place

pub record VerdictTold (v : Result ℕ Rejected) (r : ℕ) (answer' : List ℕ) : Type 0 where
  pub kind : r ≡ verdict_kind v
  pub values : answer' ≡ verdict_values v

abbrev pub asked_kind : Asked → ℕ
asked_kind (Asked.TheVariants.Library from to) = 1
asked_kind (Asked.TheVariants.Addon from to) = 1
asked_kind (Asked.TheVariants.Refused number place) = 0

-- where the bytes begin and end, and in which input: by the same numbers as a refusal's place
abbrev pub asked_values : Asked → List ℕ
asked_values (Asked.TheVariants.Library from to) = from ∷ to ∷ place_input (in_library from) ∷ 0 ∷ []
asked_values (Asked.TheVariants.Addon from to) = from ∷ to ∷ place_input (in_addon from) ∷ 0 ∷ []
asked_values (Asked.TheVariants.Refused number place) = refusal_values number place

pub record AskedTold (a : Asked) (r : ℕ) (answer' : List ℕ) : Type 0 where
  pub kind : r ≡ asked_kind a
  pub values : answer' ≡ asked_values a

abbrev pub ran_kind : Ran → ℕ
ran_kind (Ran.TheVariants.Done steps results) = 1
ran_kind (Ran.TheVariants.Trapped trap place steps) = 2
ran_kind (Ran.TheVariants.Spent steps) = 3
ran_kind (Ran.TheVariants.Refused number place) = 0

abbrev pub ran_values : Ran → List ℕ
ran_values (Ran.TheVariants.Done steps results) = steps ∷ results ∷ 0 ∷ 0 ∷ []
ran_values (Ran.TheVariants.Trapped trap place steps) = trap ∷ place ∷ steps ∷ 0 ∷ []
ran_values (Ran.TheVariants.Spent steps) = steps ∷ 0 ∷ 0 ∷ 0 ∷ []
ran_values (Ran.TheVariants.Refused number place) = refusal_values number place

pub record RanTold (a : Ran) (r : ℕ) (answer' : List ℕ) : Type 0 where
  pub kind : r ≡ ran_kind a
  pub values : answer' ≡ ran_values a

-- Types for each outcome of their test, and bodies that are refused with 31, or still with another number; each answer worked out
-- from document 02's request 9. Beside it stands what document 01 said before.
use Rattle.std.specs.Prelude.{ℕ, List, [], ◌∷◌}
use Rattle.scope.specs.Sections.{empty_library}
use Rattle.scope.specs.Abstract.{NONE, NOFUNC, STRUCT}
use Rattle.scope.specs.Syntax.{abstract, defined, exact, i32, i64, Val, num, nullable, non_null, Types, types_of}
use Rattle.scope.specs.Order.{Fit, it_fits, but_for_null, unfit, val_fit}
use Rattle.scope.specs.Judging.{plain, Judged, accepted, rejected, Joined, judge_joined}
use Rattle.scope.specs.Bodies.{Body, judge_body}
use Rattle.facts_nulls.specs.Before.{judge_body_before}

-- types

-- type 0, and type 1 below it
abbrev pub two_structs : List ℕ
two_structs = 0x02 ∷ 0x50 ∷ 0x00 ∷ 0x5F ∷ 0x00 ∷ 0x4F ∷ 0x01 ∷ 0x00 ∷ 0x5F ∷ 0x01 ∷ 0x7F ∷ 0x00 ∷ []

abbrev pub joined_of : Judged Joined → Joined
joined_of (accepted j) = j
joined_of (rejected n p) = record { before = 0; types = [] }

abbrev pub types : Types
types = types_of (joined_of (judge_joined empty_library two_structs)).types

pub record Tested : Type 0 where
  pub lower : Val
  pub upper : Val
  pub comes_to : Fit

abbrev pub outcome : Tested → Fit
outcome t = val_fit types t.lower t.upper

abbrev pub tested : List Tested
tested =
    -- below: by null, by the supertype, by both, by the bottom; a number is below itself
    record { lower = non_null (defined 0); upper = nullable (defined 0); comes_to = it_fits }
    ∷ record { lower = nullable (defined 1); upper = nullable (defined 0); comes_to = it_fits }
    ∷ record { lower = non_null (exact 1); upper = nullable (abstract STRUCT); comes_to = it_fits }
    ∷ record { lower = non_null (abstract NONE); upper = non_null (exact 0); comes_to = it_fits }
    ∷ record { lower = num i32; upper = num i32; comes_to = it_fits }
    -- only null is wrong: of the same heap, of one below it, and of the bottom
    ∷ record { lower = nullable (defined 0); upper = non_null (defined 0); comes_to = but_for_null }
    ∷ record { lower = nullable (defined 1); upper = non_null (defined 0); comes_to = but_for_null }
    ∷ record { lower = nullable (exact 1); upper = non_null (abstract STRUCT); comes_to = but_for_null }
    ∷ record { lower = nullable (abstract NONE); upper = non_null (defined 1); comes_to = but_for_null }
    ∷ record { lower = nullable (abstract NONE); upper = non_null (exact 1); comes_to = but_for_null }
    -- null and the heap are wrong: a supertype, exactness, the bottom of another hierarchy
    ∷ record { lower = nullable (defined 0); upper = non_null (defined 1); comes_to = unfit }
    ∷ record { lower = nullable (defined 0); upper = non_null (exact 0); comes_to = unfit }
    ∷ record { lower = nullable (abstract NOFUNC); upper = non_null (defined 0); comes_to = unfit }
    -- the heap alone is wrong, or one of the two is a number
    ∷ record { lower = non_null (defined 0); upper = non_null (defined 1); comes_to = unfit }
    ∷ record { lower = nullable (defined 0); upper = nullable (exact 0); comes_to = unfit }
    ∷ record { lower = nullable (defined 0); upper = num i32; comes_to = unfit }
    ∷ record { lower = num i64; upper = non_null (defined 0); comes_to = unfit }
    ∷ []

-- bodies

-- type 0; a function that gives (ref 0)
abbrev pub gives_one : List ℕ
gives_one = 0x02 ∷ 0x5F ∷ 0x00 ∷ 0x60 ∷ 0x00 ∷ 0x01 ∷ 0x64 ∷ 0x00 ∷ []

-- type 0; a function that gives (ref (exact 0))
abbrev pub gives_exact : List ℕ
gives_exact = 0x02 ∷ 0x50 ∷ 0x00 ∷ 0x5F ∷ 0x00 ∷ 0x60 ∷ 0x00 ∷ 0x01 ∷ 0x64 ∷ 0x62 ∷ 0x00 ∷ []

-- type 0; a function that gives an i32 and on top a (ref 0), and a body that gives an i64 and (ref null 0)
abbrev pub null_on_top : List ℕ
null_on_top = 0x02 ∷ 0x5F ∷ 0x00 ∷ 0x60 ∷ 0x00 ∷ 0x02 ∷ 0x7F ∷ 0x64 ∷ 0x00 ∷ []

abbrev pub topmost_null : List ℕ
topmost_null = 0x00 ∷ 0x42 ∷ 0x00 ∷ 0xD0 ∷ 0x00 ∷ 0x0B ∷ []

-- the other way round
abbrev pub null_below : List ℕ
null_below = 0x02 ∷ 0x5F ∷ 0x00 ∷ 0x60 ∷ 0x00 ∷ 0x02 ∷ 0x64 ∷ 0x00 ∷ 0x7F ∷ []

abbrev pub deeper_null : List ℕ
deeper_null = 0x00 ∷ 0xD0 ∷ 0x00 ∷ 0x42 ∷ 0x00 ∷ 0x0B ∷ []

-- a body of type 1, its refusal's number now and before, and the place, which is the same
pub record Refused : Type 0 where
  pub section : List ℕ
  pub body : List ℕ
  pub number : ℕ
  pub before : ℕ
  pub place : ℕ

abbrev pub verdict : Refused → Judged Body
verdict r = judge_body empty_library r.section r.body 1

abbrev pub verdict_before : Refused → Judged Body
verdict_before r = judge_body_before empty_library r.section r.body 1

abbrev pub said : Refused → Judged Body
said r = rejected r.number (plain r.place)

abbrev pub said_before : Refused → Judged Body
said_before r = rejected r.before (plain r.place)

abbrev pub bodies : List Refused
bodies =
    -- at `end`, of the same heap and of the bottom; with a value left below it; after unreachable
    record { section = gives_one; body = 0x00 ∷ 0xD0 ∷ 0x00 ∷ 0x0B ∷ []; number = 31; before = 20; place = 3 }
    ∷ record { section = gives_one; body = 0x00 ∷ 0xD0 ∷ 0x71 ∷ 0x0B ∷ []; number = 31; before = 20; place = 3 }
    ∷ record { section = gives_one; body = 0x00 ∷ 0x41 ∷ 0x00 ∷ 0xD0 ∷ 0x00 ∷ 0x0B ∷ []; number = 31; before = 20; place = 5 }
    ∷ record { section = gives_one; body = 0x00 ∷ 0x00 ∷ 0xD0 ∷ 0x00 ∷ 0x0B ∷ []; number = 31; before = 20; place = 4 }
    -- what local.set and a branching cast take
    ∷ record { section = gives_one; body = 0x01 ∷ 0x01 ∷ 0x64 ∷ 0x00 ∷ 0xD0 ∷ 0x00 ∷ 0x21 ∷ 0x00 ∷ 0x00 ∷ 0x0B ∷ []; number = 31; before = 20; place = 6 }
    ∷ record { section = gives_one; body = 0x00 ∷ 0xD0 ∷ 0x00 ∷ 0xFB ∷ 0x18 ∷ 0x00 ∷ 0x00 ∷ 0x00 ∷ 0x00 ∷ 0x0B ∷ []; number = 31; before = 20; place = 3 }
    -- two at fault, the upper one for null; two at fault, the lower one for null
    ∷ record { section = null_on_top; body = topmost_null; number = 31; before = 20; place = 5 }
    ∷ record { section = null_below; body = deeper_null; number = 20; before = 20; place = 5 }
    -- null and the heap are wrong; no operand; what the label of a branching cast takes is no operand
    ∷ record { section = gives_exact; body = 0x00 ∷ 0xD0 ∷ 0x00 ∷ 0x0B ∷ []; number = 20; before = 20; place = 3 }
    ∷ record { section = gives_one; body = 0x00 ∷ 0x0B ∷ []; number = 20; before = 20; place = 1 }
    ∷ record { section = gives_one; body = 0x00 ∷ 0xD0 ∷ 0x00 ∷ 0xFB ∷ 0x18 ∷ 0x03 ∷ 0x00 ∷ 0x00 ∷ 0x00 ∷ 0x0B ∷ []; number = 25; before = 25; place = 3 }
    ∷ []

-- the first of them with ref.as_non_null before the `end`
abbrev pub made_to_fit : List ℕ
made_to_fit = 0x00 ∷ 0xD0 ∷ 0x00 ∷ 0xD4 ∷ 0x0B ∷ []

abbrev pub body_of : Judged Body → Body
body_of (accepted b) = b
body_of (rejected n p) = record { types = []; function = record { parameters = []; results = [] }; locals = []; code = [] }

-- a field (ref null 0) in type 2, where its supertype has (ref 0): rule 2, and no operand
abbrev pub wider_field : List ℕ
wider_field =
    0x03 ∷ 0x5F ∷ 0x00 ∷ 0x50 ∷ 0x00 ∷ 0x5F ∷ 0x01 ∷ 0x64 ∷ 0x00 ∷ 0x00 ∷ 0x4F ∷ 0x01 ∷ 0x01 ∷ 0x5F ∷ 0x01 ∷ 0x63 ∷ 0x00 ∷ 0x00 ∷ []

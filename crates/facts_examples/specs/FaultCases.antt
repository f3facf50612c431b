-- Sections with two faults, one list in document 01's order: the earlier fault is the one that is said. Beside each
-- stands the same section with that fault mended, which is then refused for the later one: so both were there. The 1,025th type is
-- not computed: proofs/ManyTypes.antt of facts_sections has it.
use Rattle.std.specs.Prelude.{ℕ, zero, suc, ◌+◌, ◌-◌, Bool, false, ◌&&◌, List, [], ◌∷◌, ◌++◌, replicate, eqb}
use Rattle.scope.specs.Sections.{empty_library}
use Rattle.scope.specs.Sizes.{most_bytes, most_each, most_steps}
use Rattle.scope.specs.Refusals.{bytes_end, bad_number, not_listed, oversize, left_over, out_of_reach, bad_supertype, no_match, clause_not_on_struct, describes_not_earlier, clauses_disagree, bad_descriptor, bad_describes, padded}
use Rattle.scope.specs.Lists.{some_of}
use Rattle.scope.specs.Judging.{place_number, Judged, accepted, rejected, judge_joined}
use Rattle.facts_examples.specs.Pieces.{times}

-- a refusal's number and place
pub record Fault : Type 0 where
  pub number : ℕ
  pub place : ℕ

pub record Case : Type 0 where
  pub bytes : List ℕ
  pub said : Fault
  pub mended : List ℕ
  pub said_then : Fault

abbrev pub refused_for : {A : Type 0} → Fault → Judged A → Bool
refused_for f (accepted x) = false
refused_for f (rejected n p) = eqb n f.number && eqb (place_number p) f.place

abbrev pub first_said : Case → Bool
first_said c = refused_for c.said (judge_joined empty_library c.bytes) && refused_for c.said_then (judge_joined empty_library c.mended)

-- pieces of sections

-- a final struct without fields; an open one
abbrev pub plain : List ℕ
plain = 0x5F ∷ 0x00 ∷ []

abbrev pub root : List ℕ
root = 0x50 ∷ 0x00 ∷ 0x5F ∷ 0x00 ∷ []

-- types 1 to n, open, each below the one before it
abbrev pub below : ℕ → List ℕ
below zero = []
below (suc n) = below n ++ (0x50 ∷ 0x01 ∷ n ∷ 0x5F ∷ 0x00 ∷ [])

-- type 0 with descriptor 1, open; type 1 describes it
abbrev pub described : List ℕ
described = 0x50 ∷ 0x00 ∷ 0x4D ∷ 0x01 ∷ 0x5F ∷ 0x00 ∷ 0x50 ∷ 0x00 ∷ 0x4C ∷ 0x00 ∷ 0x5F ∷ 0x00 ∷ []

-- The whole size, then the bytes in the order in which they stand, then the rules

abbrev pub byte_cases : List Case
byte_cases =
    -- the whole size before bytes left over
    record {
      bytes = replicate (most_bytes + 1) 0x00;
      said = record { number = oversize; place = 0 };
      mended = replicate most_bytes 0x00;
      said_then = record { number = left_over; place = 1 };
    }
    -- a count out of range before a group that is missing
    ∷ record {
      bytes = 0x80 ∷ 0x80 ∷ 0x80 ∷ 0x80 ∷ 0x10 ∷ [];
      said = record { number = bad_number; place = 0 };
      mended = 0x01 ∷ [];
      said_then = record { number = bytes_end; place = 1 };
    }
    -- a byte that is not listed before a number that is too long
    ∷ record {
      bytes = 0x02 ∷ 0x61 ∷ 0x5F ∷ 0x80 ∷ 0x80 ∷ 0x80 ∷ 0x80 ∷ 0x80 ∷ [];
      said = record { number = not_listed; place = 1 };
      mended = 0x02 ∷ 0x5F ∷ 0x00 ∷ 0x5F ∷ 0x80 ∷ 0x80 ∷ 0x80 ∷ 0x80 ∷ 0x80 ∷ [];
      said_then = record { number = bad_number; place = 4 };
    }
    -- a field that is neither fixed nor mutable, at that byte, before a field's type that is not listed; and where that byte is missing
    ∷ record {
      bytes = 0x01 ∷ 0x5F ∷ 0x02 ∷ 0x7F ∷ 0x02 ∷ 0x7B ∷ 0x00 ∷ [];
      said = record { number = not_listed; place = 4 };
      mended = 0x01 ∷ 0x5F ∷ 0x02 ∷ 0x7F ∷ 0x01 ∷ 0x7B ∷ 0x00 ∷ [];
      said_then = record { number = not_listed; place = 5 };
    }
    ∷ record {
      bytes = 0x01 ∷ 0x5F ∷ 0x02 ∷ 0x63 ∷ 0x00 ∷ 0xFF ∷ 0x7E ∷ [];
      said = record { number = not_listed; place = 5 };
      mended = 0x01 ∷ 0x5F ∷ 0x02 ∷ 0x63 ∷ 0x00 ∷ 0x00 ∷ 0x7E ∷ [];
      said_then = record { number = bytes_end; place = 7 };
    }
    -- a number out of range before that it is negative
    ∷ record {
      bytes = 0x01 ∷ 0x5F ∷ 0x01 ∷ 0x63 ∷ 0x80 ∷ 0x80 ∷ 0x80 ∷ 0x80 ∷ 0x60 ∷ 0x00 ∷ [];
      said = record { number = bad_number; place = 4 };
      mended = 0x01 ∷ 0x5F ∷ 0x01 ∷ 0x63 ∷ 0x80 ∷ 0x80 ∷ 0x80 ∷ 0x80 ∷ 0x70 ∷ 0x00 ∷ [];
      said_then = record { number = not_listed; place = 4 };
    }
    -- 32 of request 10, "after 1 and 2 and before 3 for the same number": a count that is cut, one that is too long, each before
    -- that it is padded
    ∷ record {
      bytes = 0x80 ∷ [];
      said = record { number = bytes_end; place = 0 };
      mended = 0x80 ∷ 0x00 ∷ [];
      said_then = record { number = padded; place = 0 };
    }
    ∷ record {
      bytes = 0x80 ∷ 0x80 ∷ 0x80 ∷ 0x80 ∷ 0x80 ∷ 0x00 ∷ [];
      said = record { number = bad_number; place = 0 };
      mended = 0x80 ∷ 0x80 ∷ 0x80 ∷ 0x80 ∷ 0x00 ∷ [];
      said_then = record { number = padded; place = 0 };
    }
    -- a heap type's number padded before that it is negative: -16 in two bytes, then -128, which needs them
    ∷ record {
      bytes = 0x01 ∷ 0x5F ∷ 0x01 ∷ 0x63 ∷ 0xF0 ∷ 0x7F ∷ 0x00 ∷ [];
      said = record { number = padded; place = 4 };
      mended = 0x01 ∷ 0x5F ∷ 0x01 ∷ 0x63 ∷ 0x80 ∷ 0x7F ∷ 0x00 ∷ [];
      said_then = record { number = not_listed; place = 4 };
    }
    -- a count of 65 padded before the 65th field; a number padded before that it is out of reach
    ∷ record {
      bytes = (0x01 ∷ 0x5F ∷ 0xC1 ∷ 0x00 ∷ []) ++ times (most_each + 1) (0x7F ∷ 0x00 ∷ []);
      said = record { number = padded; place = 2 };
      mended = (0x01 ∷ 0x5F ∷ 0x41 ∷ []) ++ times (most_each + 1) (0x7F ∷ 0x00 ∷ []);
      said_then = record { number = oversize; place = 131 };
    }
    ∷ record {
      bytes = 0x01 ∷ 0x4C ∷ 0x89 ∷ 0x00 ∷ 0x5F ∷ 0x00 ∷ [];
      said = record { number = padded; place = 2 };
      mended = 0x01 ∷ 0x4C ∷ 0x09 ∷ 0x5F ∷ 0x00 ∷ [];
      said_then = record { number = out_of_reach; place = 0 };
    }
    -- a byte that is not listed before bytes left over
    ∷ record {
      bytes = 0x01 ∷ 0x61 ∷ 0x00 ∷ 0x00 ∷ [];
      said = record { number = not_listed; place = 1 };
      mended = 0x01 ∷ 0x5F ∷ 0x00 ∷ 0x00 ∷ [];
      said_then = record { number = left_over; place = 3 };
    }
    -- the 65th field before that it is missing
    ∷ record {
      bytes = (0x01 ∷ 0x5F ∷ 0x41 ∷ []) ++ times most_each (0x7F ∷ 0x00 ∷ []);
      said = record { number = oversize; place = 131 };
      mended = (0x01 ∷ 0x5F ∷ 0x40 ∷ []) ++ times (most_each - 1) (0x7F ∷ 0x00 ∷ []);
      said_then = record { number = bytes_end; place = 129 };
    }
    -- the 65th field before its own first byte, which is not listed
    ∷ record {
      bytes = (0x01 ∷ 0x5F ∷ 0x41 ∷ []) ++ times most_each (0x7F ∷ 0x00 ∷ []) ++ (0x77 ∷ 0x00 ∷ []);
      said = record { number = oversize; place = 131 };
      mended = (0x01 ∷ 0x5F ∷ 0x40 ∷ []) ++ times (most_each - 1) (0x7F ∷ 0x00 ∷ []) ++ (0x77 ∷ 0x00 ∷ []);
      said_then = record { number = not_listed; place = 129 };
    }
    -- bytes that end, and bytes left over, before a number out of reach
    ∷ record {
      bytes = 0x02 ∷ 0x5F ∷ 0x01 ∷ 0x63 ∷ 0x05 ∷ 0x00 ∷ [];
      said = record { number = bytes_end; place = 6 };
      mended = 0x01 ∷ 0x5F ∷ 0x01 ∷ 0x63 ∷ 0x05 ∷ 0x00 ∷ [];
      said_then = record { number = out_of_reach; place = 0 };
    }
    ∷ record {
      bytes = 0x01 ∷ 0x5F ∷ 0x01 ∷ 0x63 ∷ 0x05 ∷ 0x00 ∷ 0x00 ∷ [];
      said = record { number = left_over; place = 6 };
      mended = 0x01 ∷ 0x5F ∷ 0x01 ∷ 0x63 ∷ 0x05 ∷ 0x00 ∷ [];
      said_then = record { number = out_of_reach; place = 0 };
    }
    ∷ []

-- Type by type, 6, 7 and the chain; all of these before any 8 to 13

abbrev pub link_cases : List Case
link_cases =
    -- in one type: a number out of reach before two supertypes
    record {
      bytes = (0x03 ∷ []) ++ root ++ root ++ (0x4F ∷ 0x02 ∷ 0x00 ∷ 0x09 ∷ 0x5F ∷ 0x00 ∷ []);
      said = record { number = out_of_reach; place = 2 };
      mended = (0x03 ∷ []) ++ root ++ root ++ (0x4F ∷ 0x02 ∷ 0x00 ∷ 0x01 ∷ 0x5F ∷ 0x00 ∷ []);
      said_then = record { number = bad_supertype; place = 2 };
    }
    -- in one type: two supertypes before a chain of 64 steps
    ∷ record {
      bytes = (0x41 ∷ []) ++ root ++ below most_steps ++ (0x50 ∷ 0x02 ∷ most_steps ∷ most_steps ∷ 0x5F ∷ 0x00 ∷ []);
      said = record { number = bad_supertype; place = most_steps + 1 };
      mended = (0x41 ∷ []) ++ root ++ below (most_steps + 1);
      said_then = record { number = oversize; place = most_steps + 1 };
    }
    -- type by type: a supertype that is not earlier, before a later type's number out of reach
    ∷ record {
      bytes = 0x02 ∷ 0x4F ∷ 0x01 ∷ 0x00 ∷ 0x5F ∷ 0x00 ∷ 0x4C ∷ 0x09 ∷ 0x5F ∷ 0x00 ∷ [];
      said = record { number = bad_supertype; place = 0 };
      mended = 0x02 ∷ 0x5F ∷ 0x00 ∷ 0x4C ∷ 0x09 ∷ 0x5F ∷ 0x00 ∷ [];
      said_then = record { number = out_of_reach; place = 1 };
    }
    -- type by type: a chain of 64 steps before a later type's number out of reach
    ∷ record {
      bytes = (0x42 ∷ []) ++ root ++ below (most_steps + 1) ++ (0x4C ∷ 0x42 ∷ 0x5F ∷ 0x00 ∷ []);
      said = record { number = oversize; place = most_steps + 1 };
      mended = (0x41 ∷ []) ++ root ++ below most_steps ++ (0x4C ∷ 0x42 ∷ 0x5F ∷ 0x00 ∷ []);
      said_then = record { number = out_of_reach; place = most_steps + 1 };
    }
    -- a final supertype before an earlier type's missing field
    ∷ record {
      bytes = 0x03 ∷ 0x50 ∷ 0x00 ∷ 0x5F ∷ 0x01 ∷ 0x7F ∷ 0x00 ∷ 0x4F ∷ 0x01 ∷ 0x00 ∷ 0x5F ∷ 0x00 ∷ 0x4F ∷ 0x01 ∷ 0x01 ∷ 0x5F ∷ 0x00 ∷ [];
      said = record { number = bad_supertype; place = 2 };
      mended = 0x03 ∷ 0x50 ∷ 0x00 ∷ 0x5F ∷ 0x01 ∷ 0x7F ∷ 0x00 ∷ 0x4F ∷ 0x01 ∷ 0x00 ∷ 0x5F ∷ 0x00 ∷ 0x5F ∷ 0x00 ∷ [];
      said_then = record { number = no_match; place = 1 };
    }
    -- a chain of 64 steps before an earlier type's missing field
    ∷ record {
      bytes = (0x41 ∷ 0x50 ∷ 0x00 ∷ 0x5F ∷ 0x01 ∷ 0x7F ∷ 0x00 ∷ []) ++ below (most_steps + 1);
      said = record { number = oversize; place = most_steps + 1 };
      mended = (0x40 ∷ 0x50 ∷ 0x00 ∷ 0x5F ∷ 0x01 ∷ 0x7F ∷ 0x00 ∷ []) ++ below most_steps;
      said_then = record { number = no_match; place = 1 };
    }
    ∷ []

-- Type by type again, 8 to 13 in rising number

abbrev pub rule_cases : List Case
rule_cases =
    -- a function below a struct, before its clause
    record {
      bytes = (0x02 ∷ []) ++ root ++ (0x4F ∷ 0x01 ∷ 0x00 ∷ 0x4C ∷ 0x00 ∷ 0x60 ∷ 0x00 ∷ 0x00 ∷ []);
      said = record { number = no_match; place = 1 };
      mended = (0x02 ∷ []) ++ root ++ (0x4C ∷ 0x00 ∷ 0x60 ∷ 0x00 ∷ 0x00 ∷ []);
      said_then = record { number = clause_not_on_struct; place = 1 };
    }
    -- a function's clause, before what it names, which is itself
    ∷ record {
      bytes = 0x01 ∷ 0x4C ∷ 0x00 ∷ 0x60 ∷ 0x00 ∷ 0x00 ∷ [];
      said = record { number = clause_not_on_struct; place = 0 };
      mended = 0x01 ∷ 0x4C ∷ 0x00 ∷ 0x5F ∷ 0x00 ∷ [];
      said_then = record { number = describes_not_earlier; place = 0 };
    }
    -- describes itself, before that it has no descriptor
    ∷ record {
      bytes = (0x02 ∷ []) ++ plain ++ (0x4C ∷ 0x01 ∷ 0x5F ∷ 0x00 ∷ []);
      said = record { number = describes_not_earlier; place = 1 };
      mended = (0x02 ∷ []) ++ plain ++ (0x4C ∷ 0x00 ∷ 0x5F ∷ 0x00 ∷ []);
      said_then = record { number = clauses_disagree; place = 1 };
    }
    -- a descriptor that describes nothing, before that it is not below the supertype's descriptor
    ∷ record {
      bytes = (0x01 ∷ 0x4E ∷ 0x04 ∷ []) ++ described ++ (0x4F ∷ 0x01 ∷ 0x00 ∷ 0x4D ∷ 0x03 ∷ 0x5F ∷ 0x00 ∷ []) ++ plain;
      said = record { number = clauses_disagree; place = 2 };
      mended = (0x01 ∷ 0x4E ∷ 0x04 ∷ []) ++ described ++ (0x4F ∷ 0x01 ∷ 0x00 ∷ 0x4D ∷ 0x03 ∷ 0x5F ∷ 0x00 ∷ []) ++ (0x4C ∷ 0x02 ∷ []) ++ plain;
      said_then = record { number = bad_descriptor; place = 2 };
    }
    -- below a type that describes and has a descriptor: no descriptor, before that it describes nothing
    ∷ record {
      bytes = (0x02 ∷ 0x4E ∷ 0x03 ∷ 0x50 ∷ 0x00 ∷ 0x4D ∷ 0x01 ∷ 0x5F ∷ 0x00 ∷ 0x50 ∷ 0x00 ∷ 0x4C ∷ 0x00 ∷ 0x4D ∷ 0x02 ∷ 0x5F ∷ 0x00 ∷ [])
          ++ (0x50 ∷ 0x00 ∷ 0x4C ∷ 0x01 ∷ 0x5F ∷ 0x00 ∷ 0x4F ∷ 0x01 ∷ 0x01 ∷ 0x5F ∷ 0x00 ∷ []);
      said = record { number = bad_descriptor; place = 3 };
      mended = (0x02 ∷ 0x4E ∷ 0x02 ∷ []) ++ described ++ (0x4F ∷ 0x01 ∷ 0x01 ∷ 0x5F ∷ 0x00 ∷ []);
      said_then = record { number = bad_describes; place = 2 };
    }
    -- type by type: rule 5 before a later type's rule 2
    ∷ record {
      bytes = (0x03 ∷ 0x4E ∷ 0x02 ∷ []) ++ described ++ (0x4F ∷ 0x01 ∷ 0x01 ∷ 0x5F ∷ 0x00 ∷ 0x4F ∷ 0x01 ∷ 0x00 ∷ 0x60 ∷ 0x00 ∷ 0x00 ∷ []);
      said = record { number = bad_describes; place = 2 };
      mended = (0x03 ∷ 0x4E ∷ 0x02 ∷ []) ++ described ++ (0x5F ∷ 0x00 ∷ 0x4F ∷ 0x01 ∷ 0x00 ∷ 0x60 ∷ 0x00 ∷ 0x00 ∷ []);
      said_then = record { number = no_match; place = 3 };
    }
    ∷ []

abbrev pub cases : List Case
cases = byte_cases ++ link_cases ++ rule_cases

-- the refusals of a section
abbrev pub section_refusals : List ℕ
section_refusals =
    bytes_end
    ∷ bad_number
    ∷ not_listed
    ∷ oversize
    ∷ left_over
    ∷ out_of_reach
    ∷ bad_supertype
    ∷ no_match
    ∷ clause_not_on_struct
    ∷ describes_not_earlier
    ∷ clauses_disagree
    ∷ bad_descriptor
    ∷ bad_describes
    ∷ padded
    ∷ []

-- this number is said in some case, though a later fault is there
abbrev pub said_first : ℕ → Bool
said_first n = some_of (λ c. eqb c.said.number n) cases

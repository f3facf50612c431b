-- Examples that pin a definition down where a slip in it would agree with the code's own contract: the sizes on both sides, one
-- reading of each code that could be taken for its neighbour, and places that other examples reach thinly. Each answer was worked
-- out from document 01. Refusals are 0, number, place and input; other answers as in facts_words.
use Rattle.std.specs.Prelude.{ℕ, Bool, List, [], ◌∷◌, ◌++◌, take, drop}
use Rattle.scope.specs.Sections.{empty_library}
use Rattle.facts_examples.specs.Pieces.{times}
use Rattle.facts_examples.specs.Cases.{refusal, to_nothing}
use Rattle.facts_words.specs.Words.{section_words, type_words, body_words, run_words, same_words}

pub record Pin : Type 0 where
  pub computed : List ℕ
  pub says : List ℕ

abbrev pub holds : Pin → Bool
holds p = same_words p.computed p.says

abbrev pub counted : ℕ → List ℕ
counted n = 1 ∷ n ∷ []

-- from nothing to an i32
abbrev pub to_i32 : List ℕ
to_i32 = 0x01 ∷ 0x60 ∷ 0x00 ∷ 0x01 ∷ 0x7F ∷ []

-- "Sizes", on both sides

abbrev pub sizes : List Pin
sizes =
    -- 64 frames, the function's own counted; the 65th is refused at its block
    record { computed = body_words empty_library to_nothing 0 ((0x00 ∷ []) ++ times 63 (0x02 ∷ 0x40 ∷ []) ++ times 64 (0x0B ∷ [])); says = counted 127 }
    ∷ record { computed = body_words empty_library to_nothing 0 ((0x00 ∷ []) ++ times 64 (0x02 ∷ 0x40 ∷ []) ++ times 65 (0x0B ∷ [])); says = refusal 4 127 }
    -- 512 operands: the 513th is refused, at its own place, so those before it were let in
    ∷ record { computed = body_words empty_library to_nothing 0 ((0x00 ∷ []) ++ times 513 (0x41 ∷ 0x00 ∷ []) ++ (0x00 ∷ 0x0B ∷ [])); says = refusal 4 1_025 }
    -- and they are counted in all frames: of 256 around a block and 257 inside it the last is refused
    ∷ record { computed = body_words empty_library to_nothing 0 ((0x00 ∷ []) ++ times 256 (0x41 ∷ 0x00 ∷ []) ++ (0x02 ∷ 0x40 ∷ []) ++ times 257 (0x41 ∷ 0x00 ∷ []) ++ (0x00 ∷ 0x0B ∷ 0x00 ∷ 0x0B ∷ [])); says = refusal 4 1_027 }
    -- 256 locals; the entry with the 257th is refused at its first byte
    ∷ record { computed = body_words empty_library to_nothing 0 (0x01 ∷ 0x80 ∷ 0x02 ∷ 0x7F ∷ 0x0B ∷ []); says = counted 1 }
    ∷ record { computed = body_words empty_library to_nothing 0 (0x01 ∷ 0x81 ∷ 0x02 ∷ 0x7F ∷ 0x0B ∷ []); says = refusal 4 1 }
    -- a budget of 1,000,000; one more is refused
    ∷ record { computed = take 4 (run_words empty_library to_nothing 0 (0x00 ∷ 0x0B ∷ []) 1_000_000); says = 1 ∷ 1 ∷ 0 ∷ 1 ∷ [] }
    ∷ record { computed = run_words empty_library to_nothing 0 (0x00 ∷ 0x0B ∷ []) 1_000_001; says = refusal 4 0 }
    -- 4,096 cells: 64 objects of 64 fields; the next one traps, after a loop of 3 steps for each
    ∷ record { computed = take 7 (run_words empty_library ((0x02 ∷ 0x5F ∷ 0x40 ∷ []) ++ times 64 (0x7F ∷ 0x01 ∷ []) ++ (0x60 ∷ 0x00 ∷ 0x00 ∷ [])) 1 (0x00 ∷ 0x03 ∷ 0x40 ∷ 0xFB ∷ 0x01 ∷ 0x00 ∷ 0x1A ∷ 0x0C ∷ 0x00 ∷ 0x0B ∷ 0x0B ∷ []) 1_000); says = 1 ∷ 2 ∷ 45 ∷ 194 ∷ 3 ∷ 64 ∷ 4_096 ∷ [] }
    ∷ []

-- codes and labels that could be taken for their neighbours

abbrev pub codes : List Pin
codes =
    -- FB 14 is ref.test of a non-null target, FB 15 of a nullable one: of null, 0 and 1
    record { computed = drop 10 (run_words empty_library to_i32 0 (0x00 ∷ 0xD0 ∷ 0x71 ∷ 0xFB ∷ 0x14 ∷ 0x6E ∷ 0x0B ∷ []) 9); says = 1 ∷ 0 ∷ [] }
    ∷ record { computed = drop 10 (run_words empty_library to_i32 0 (0x00 ∷ 0xD0 ∷ 0x71 ∷ 0xFB ∷ 0x15 ∷ 0x6E ∷ 0x0B ∷ []) 9); says = 1 ∷ 1 ∷ [] }
    -- FB 16 is ref.cast of a non-null target, FB 17 of a nullable one: of null, trap 44 and null
    ∷ record { computed = take 4 (run_words empty_library to_i32 0 (0x00 ∷ 0xD0 ∷ 0x71 ∷ 0xFB ∷ 0x16 ∷ 0x6E ∷ 0xD1 ∷ 0x0B ∷ []) 9); says = 1 ∷ 2 ∷ 44 ∷ 2 ∷ [] }
    ∷ record { computed = drop 10 (run_words empty_library to_i32 0 (0x00 ∷ 0xD0 ∷ 0x71 ∷ 0xFB ∷ 0x17 ∷ 0x6E ∷ 0xD1 ∷ 0x0B ∷ []) 9); says = 1 ∷ 1 ∷ [] }
    -- i32.const -1 is 32 bits of 1
    ∷ record { computed = drop 10 (run_words empty_library to_i32 0 (0x00 ∷ 0x41 ∷ 0x7F ∷ 0x0B ∷ []) 9); says = 1 ∷ 4_294_967_295 ∷ [] }
    -- a loop's label takes nothing, though the loop gives an i32
    ∷ record { computed = body_words empty_library to_i32 0 (0x00 ∷ 0x03 ∷ 0x7F ∷ 0x0C ∷ 0x00 ∷ 0x0B ∷ 0x0B ∷ []); says = counted 4 }
    -- a block's label takes its results
    ∷ record { computed = body_words empty_library to_i32 0 (0x00 ∷ 0x02 ∷ 0x7F ∷ 0x0C ∷ 0x00 ∷ 0x0B ∷ 0x0B ∷ []); says = refusal 20 3 }
    -- exact of a function's type is below func, not below any
    ∷ record { computed = body_words empty_library to_i32 0 (0x00 ∷ 0xD0 ∷ 0x73 ∷ 0xFB ∷ 0x14 ∷ 0x62 ∷ 0x00 ∷ 0x0B ∷ []); says = counted 3 }
    ∷ record { computed = body_words empty_library to_i32 0 (0x00 ∷ 0xD0 ∷ 0x71 ∷ 0xFB ∷ 0x14 ∷ 0x62 ∷ 0x00 ∷ 0x0B ∷ []); says = refusal 20 3 }
    -- array is below eq: rule 2 of a field
    ∷ record { computed = take 2 (section_words empty_library (0x02 ∷ 0x50 ∷ 0x00 ∷ 0x5F ∷ 0x01 ∷ 0x6D ∷ 0x00 ∷ 0x4F ∷ 0x01 ∷ 0x00 ∷ 0x5F ∷ 0x01 ∷ 0x6A ∷ 0x00 ∷ [])); says = counted 2 }
    -- an absent type: 6 with the number as place
    ∷ record { computed = type_words empty_library (0x01 ∷ 0x4E ∷ 0x02 ∷ 0x4D ∷ 0x01 ∷ 0x5F ∷ 0x00 ∷ 0x4C ∷ 0x00 ∷ 0x5F ∷ 0x00 ∷ []) 2; says = refusal 6 2 }
    -- a type that is there: its very bytes
    ∷ record { computed = type_words empty_library (0x01 ∷ 0x4E ∷ 0x02 ∷ 0x4D ∷ 0x01 ∷ 0x5F ∷ 0x00 ∷ 0x4C ∷ 0x00 ∷ 0x5F ∷ 0x00 ∷ []) 1; says = 1 ∷ 2 ∷ 0x4C ∷ 0x00 ∷ 0x5F ∷ 0x00 ∷ [] }
    ∷ []

-- bodies that other examples reach thinly

abbrev pub thin_bodies : List Pin
thin_bodies =
    -- 64 parameters and 64 results
    record { computed = body_words empty_library ((0x01 ∷ 0x60 ∷ 0x40 ∷ []) ++ times 64 (0x7F ∷ []) ++ (0x40 ∷ []) ++ times 64 (0x7F ∷ [])) 0 ((0x00 ∷ []) ++ times 64 (0x20 ∷ 0x3F ∷ []) ++ (0x0B ∷ [])); says = counted 65 }
    -- 64 fields with a descriptor; field 63 is there, field 64 is not
    ∷ record { computed = body_words empty_library ((0x02 ∷ 0x4E ∷ 0x02 ∷ 0x4D ∷ 0x01 ∷ 0x5F ∷ 0x40 ∷ []) ++ times 64 (0x7F ∷ 0x01 ∷ []) ++ (0x4C ∷ 0x00 ∷ 0x5F ∷ 0x00 ∷ 0x60 ∷ 0x00 ∷ 0x01 ∷ 0x7F ∷ [])) 2 (0x00 ∷ 0xFB ∷ 0x00 ∷ 0x01 ∷ 0xFB ∷ 0x21 ∷ 0x00 ∷ 0xFB ∷ 0x02 ∷ 0x00 ∷ 0x3F ∷ 0x0B ∷ []); says = counted 4 }
    ∷ record { computed = body_words empty_library ((0x02 ∷ 0x4E ∷ 0x02 ∷ 0x4D ∷ 0x01 ∷ 0x5F ∷ 0x40 ∷ []) ++ times 64 (0x7F ∷ 0x01 ∷ []) ++ (0x4C ∷ 0x00 ∷ 0x5F ∷ 0x00 ∷ 0x60 ∷ 0x00 ∷ 0x01 ∷ 0x7F ∷ [])) 2 (0x00 ∷ 0xFB ∷ 0x00 ∷ 0x01 ∷ 0xFB ∷ 0x21 ∷ 0x00 ∷ 0xFB ∷ 0x02 ∷ 0x00 ∷ 0x40 ∷ 0x0B ∷ []); says = refusal 23 7 }
    ∷ []

-- sections that other examples reach thinly

abbrev pub thin_sections : List Pin
thin_sections =
    -- type 255 may name itself and not 256; type 200 may name itself and not 201
    record { computed = take 2 (section_words empty_library ((0x80 ∷ 0x02 ∷ []) ++ times 255 (0x5F ∷ 0x00 ∷ []) ++ (0x5F ∷ 0x01 ∷ 0x63 ∷ 0xFF ∷ 0x01 ∷ 0x00 ∷ []))); says = counted 256 }
    ∷ record { computed = section_words empty_library ((0x80 ∷ 0x02 ∷ []) ++ times 255 (0x5F ∷ 0x00 ∷ []) ++ (0x5F ∷ 0x01 ∷ 0x63 ∷ 0x80 ∷ 0x02 ∷ 0x00 ∷ [])); says = refusal 6 255 }
    ∷ record { computed = take 2 (section_words empty_library ((0x80 ∷ 0x02 ∷ []) ++ times 200 (0x5F ∷ 0x00 ∷ []) ++ (0x5F ∷ 0x01 ∷ 0x63 ∷ 0xC8 ∷ 0x01 ∷ 0x00 ∷ []) ++ times 55 (0x5F ∷ 0x00 ∷ []))); says = counted 256 }
    ∷ record { computed = section_words empty_library ((0x80 ∷ 0x02 ∷ []) ++ times 200 (0x5F ∷ 0x00 ∷ []) ++ (0x5F ∷ 0x01 ∷ 0x63 ∷ 0xC9 ∷ 0x01 ∷ 0x00 ∷ []) ++ times 55 (0x5F ∷ 0x00 ∷ [])); says = refusal 6 200 }
    -- functions whose counts differ from their supertype's: fewer parameters, more results
    ∷ record { computed = section_words empty_library (0x02 ∷ 0x50 ∷ 0x00 ∷ 0x60 ∷ 0x01 ∷ 0x7F ∷ 0x00 ∷ 0x4F ∷ 0x01 ∷ 0x00 ∷ 0x60 ∷ 0x00 ∷ 0x00 ∷ []); says = refusal 8 1 }
    ∷ record { computed = section_words empty_library (0x02 ∷ 0x50 ∷ 0x00 ∷ 0x60 ∷ 0x00 ∷ 0x00 ∷ 0x4F ∷ 0x01 ∷ 0x00 ∷ 0x60 ∷ 0x00 ∷ 0x01 ∷ 0x7F ∷ []); says = refusal 8 1 }
    -- 13 of an earlier type before 12 of a later one
    ∷ record { computed = section_words empty_library (0x03 ∷ 0x4E ∷ 0x02 ∷ 0x50 ∷ 0x00 ∷ 0x4D ∷ 0x01 ∷ 0x5F ∷ 0x00 ∷ 0x50 ∷ 0x00 ∷ 0x4C ∷ 0x00 ∷ 0x5F ∷ 0x00 ∷ 0x4F ∷ 0x01 ∷ 0x01 ∷ 0x5F ∷ 0x00 ∷ 0x4F ∷ 0x01 ∷ 0x00 ∷ 0x5F ∷ 0x00 ∷ []); says = refusal 13 2 }
    ∷ record { computed = section_words empty_library (0x03 ∷ 0x4E ∷ 0x02 ∷ 0x50 ∷ 0x00 ∷ 0x4D ∷ 0x01 ∷ 0x5F ∷ 0x00 ∷ 0x50 ∷ 0x00 ∷ 0x4C ∷ 0x00 ∷ 0x5F ∷ 0x00 ∷ 0x5F ∷ 0x00 ∷ 0x4F ∷ 0x01 ∷ 0x00 ∷ 0x5F ∷ 0x00 ∷ []); says = refusal 12 3 }
    -- rule 4 through two supertypes: the descriptor of type 4 is below that of type 0 and not of type 2
    ∷ record { computed = section_words empty_library (0x01 ∷ 0x4E ∷ 0x06 ∷ 0x50 ∷ 0x00 ∷ 0x4D ∷ 0x01 ∷ 0x5F ∷ 0x00 ∷ 0x50 ∷ 0x00 ∷ 0x4C ∷ 0x00 ∷ 0x5F ∷ 0x00 ∷ 0x50 ∷ 0x01 ∷ 0x00 ∷ 0x4D ∷ 0x03 ∷ 0x5F ∷ 0x00 ∷ 0x50 ∷ 0x01 ∷ 0x01 ∷ 0x4C ∷ 0x02 ∷ 0x5F ∷ 0x00 ∷ 0x50 ∷ 0x01 ∷ 0x02 ∷ 0x4D ∷ 0x05 ∷ 0x5F ∷ 0x00 ∷ 0x50 ∷ 0x01 ∷ 0x01 ∷ 0x4C ∷ 0x04 ∷ 0x5F ∷ 0x00 ∷ []); says = refusal 12 4 }
    ∷ record { computed = take 2 (section_words empty_library (0x01 ∷ 0x4E ∷ 0x06 ∷ 0x50 ∷ 0x00 ∷ 0x4D ∷ 0x01 ∷ 0x5F ∷ 0x00 ∷ 0x50 ∷ 0x00 ∷ 0x4C ∷ 0x00 ∷ 0x5F ∷ 0x00 ∷ 0x50 ∷ 0x01 ∷ 0x00 ∷ 0x4D ∷ 0x03 ∷ 0x5F ∷ 0x00 ∷ 0x50 ∷ 0x01 ∷ 0x01 ∷ 0x4C ∷ 0x02 ∷ 0x5F ∷ 0x00 ∷ 0x50 ∷ 0x01 ∷ 0x02 ∷ 0x4D ∷ 0x05 ∷ 0x5F ∷ 0x00 ∷ 0x50 ∷ 0x01 ∷ 0x03 ∷ 0x4C ∷ 0x04 ∷ 0x5F ∷ 0x00 ∷ [])); says = counted 6 }
    -- the words of a whole table: an open struct of two fields, fixed i32 and mutable (ref null 0); a function
    ∷ record { computed = section_words empty_library (0x02 ∷ 0x50 ∷ 0x00 ∷ 0x5F ∷ 0x02 ∷ 0x7F ∷ 0x00 ∷ 0x63 ∷ 0x00 ∷ 0x01 ∷ 0x60 ∷ 0x01 ∷ 0x6B ∷ 0x02 ∷ 0x7E ∷ 0x64 ∷ 0x62 ∷ 0x00 ∷ []); says = (1 ∷ 2 ∷ []) ++ (1 ∷ 2 ∷ 0 ∷ 1 ∷ 0 ∷ 0 ∷ 0 ∷ 1 ∷ 10 ∷ 1 ∷ 0 ∷ 0 ∷ 1 ∷ 2 ∷ 0 ∷ 0 ∷ []) ++ (2 ∷ 1 ∷ 2 ∷ 0 ∷ 0 ∷ 0 ∷ 0 ∷ 10 ∷ 18 ∷ 2 ∷ 2 ∷ 0 ∷ 2 ∷ 3 ∷ 0 ∷ 0 ∷ []) ++ (0 ∷ 51 ∷ 21 ∷ 1 ∷ 26 ∷ []) }
    ∷ []

abbrev pub pinned : List Pin
pinned = sizes ++ codes ++ thin_bodies ++ thin_sections

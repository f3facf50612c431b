-- The sizes of document 01, from "Sizes" and "The trial run". Each number of the paper stands here once.
use Rattle.std.specs.Prelude.{ℕ, ◌-◌}

-- 32,768 bytes a section or body
abbrev pub most_bytes : ℕ
most_bytes = 32_768

-- 1,024 types, a library's and an add-on's together
abbrev pub most_types : ℕ
most_types = 1_024

-- 64 fields, parameters or results each
abbrev pub most_each : ℕ
most_each = 64

-- 63 steps up a supertype chain
abbrev pub most_steps : ℕ
most_steps = 63

-- 256 locals with parameters
abbrev pub most_locals : ℕ
most_locals = 256

-- 512 operands in all frames after an instruction
abbrev pub most_operands : ℕ
most_operands = 512

-- 64 frames, the function's own counted
abbrev pub most_frames : ℕ
most_frames = 64

-- so 63 open blocks
abbrev pub most_blocks : ℕ
most_blocks = most_frames - 1

-- a budget of at most 1,000,000
abbrev pub most_budget : ℕ
most_budget = 1_000_000

-- trap 45: exactly when 1,024 objects exist ..
abbrev pub most_objects : ℕ
most_objects = 1_024

-- .. or fewer than the needed cells are left of 4,096
abbrev pub most_cells : ℕ
most_cells = 4_096

-- How a body's scratch is laid out, in words of 32 bits, by the sizes of document 01. docs/LAYOUT.md draws it; State.antt
-- says what each word means.
use Rattle.std.specs.Prelude.{ℕ, ◌+◌, ◌*◌, ◌^◌}
use Rattle.scope.specs.Sizes.{most_locals, most_operands, most_frames}

-- The types of the locals stand from 0 on, each at its number. Then, by the number of a local, the frame in which it was
-- set, and that frame's stamp; then the operands, the bottom first; then the frames.
abbrev pub marks_from : ℕ
marks_from = most_locals

abbrev pub stamps_from : ℕ
stamps_from = marks_from + most_locals

abbrev pub operands_from : ℕ
operands_from = stamps_from + most_locals

abbrev pub frames_from : ℕ
frames_from = operands_from + most_operands

-- the words of a frame

abbrev pub frame_span : ℕ
frame_span = 8

-- 1 for a loop
abbrev pub loop_word : ℕ
loop_word = 0

-- its result: 0 none, else one more than its code
abbrev pub result_word : ℕ
result_word = 1

-- of what stands around it: the operands below, how many there are, whether they may be unknown
abbrev pub base_word : ℕ
base_word = 2

abbrev pub height_word : ℕ
height_word = 3

abbrev pub dead_word : ℕ
dead_word = 4

-- its stamp: the place of its instruction
abbrev pub stamp_word : ℕ
stamp_word = 5

-- The function's own frame has the number 1, so frames 0 to 64 have words. No word from here on is used.
abbrev pub used_size : ℕ
used_size = frames_from + frame_span * (most_frames + 1)

-- what a word holds

-- a word is below this
abbrev pub word_bound : ℕ
word_bound = 2 ^ 32

-- no code of a type is as great as this: what is greater is read by its remainder, so that a word and two more fit 32 bits
abbrev pub code_bound : ℕ
code_bound = 1_048_576

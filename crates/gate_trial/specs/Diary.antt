-- What a diary stands for.
use Rattle.std.specs.Prelude.{◌≡◌, ◌<◌, ◌^◌, ℕ, List, length, vec_capacity}
use Rattle.gate_trial.specs.declared.diary.Line.{Line}
use Rattle.gate_trial.specs.declared.diary.Diary.{Diary}

abbrev pub line : ℕ → ℕ → Line
line by nth = record { by = by; nth = nth }

-- the number of the pass that wrote the line
abbrev pub writer : Line → ℕ
writer l = l.by

abbrev pub lines_of : Diary → List Line
lines_of d = d.lines.items

-- how many lines the diary has room for
abbrev pub room_of : Diary → ℕ
room_of d = vec_capacity d.lines

-- there is room for one more line, and for one more element of the history
abbrev pub HasRoom : Diary → List Line → Type 0
HasRoom d story = (length (lines_of d) < room_of d) × (length story < 2 ^ 63)

-- the diary's lines are the history
abbrev pub IsDiary : Diary → List Line → Type 0
IsDiary d story = lines_of d ≡ story

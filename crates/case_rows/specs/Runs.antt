-- What came of a run, and when it is what its row wants.
use Rattle.std.specs.Prelude.{◌≡◌, ℕ, ◌-◌, ◌*◌, ◌^◌, ◌<◌, ◌≤◌, max, min, Option, Some, None, unwrap_or, List, [], ◌∷◌, codes, length, map, take, String}
use Rattle.std.specs.Borrow.{Bor, MutBor}
use Rattle.std.specs.List.{AllByRecursion}
use Rattle.std.specs.String.{string_bytes}
use Rattle.std.specs.Fn.{FnReturns, Shared}
use Rattle.std.proofs.Common.{Global}
use Rattle.sq_base.specs.MemoryEnds.{MemInput, MemOutput}
use Rattle.case_rows.specs.declared.given.Given.{Given}
use Rattle.case_rows.specs.Givens.{Gives}
use Rattle.case_rows.specs.Rows.{AreNumbers, IsNumber, Line, lines_named, words_in}
use Rattle.case_rows.specs.Wanted.{WantsOut, spelled}
use Rattle.case_rows.specs.declared.program.Came.{Came}
use Rattle.case_rows.specs.declared.rows.Field.{Field}

-- what a program takes: an allocator, words, an input, an output and an error line; and what it gives, with what it leaves of the three
abbrev pub Takes : Type 0
Takes = Global × (Bor (List (String Global)) × (MutBor MemInput × (MutBor MemOutput × (MutBor MemOutput × Unit {0}))))

abbrev pub Leaves : Type 0
Leaves = ℕ × (MutBor MemInput × (MutBor MemOutput × (MutBor MemOutput × Unit {0})))

-- the source of an input, of which so many bytes are read at once, and a sink; the calls with these numbers fail
abbrev pub source_of : List ℕ → ℕ → List ℕ → MemInput
source_of input piece fails = record { left = input; piece = piece; fails = fails; call = 0; faults = 0 }

abbrev pub sink_of : ℕ → ℕ → List ℕ → MemOutput
sink_of room piece fails = record { written = []; room = room; piece = piece; fails = fails; call = 0; faults = 0 }

-- this came of a call of a program over this input, with what is given: its words, how many bytes a read gives and a write takes, and which calls fail
pub record CameOf {P : Type 0} (calls : Shared P Takes Leaves) (program : P) (given : Given) (input : List ℕ) (came : Came) : Type 0 where
  pub alloc : Global
  pub words : Bor (List (String Global))
  pub source : MutBor MemInput
  pub out : MutBor MemOutput
  pub err : MutBor MemOutput
  pub read : MutBor MemInput
  pub written : MutBor MemOutput
  pub told : MutBor MemOutput
  pub called : FnReturns calls program (alloc, (words, (source, (out, (err, tt))))) (came.status, (read, (written, (told, tt))))
  pub its_words : words.now ≡ given.words.items
  pub its_source : source.now ≡ source_of input (max given.reads 1) given.failing.reads.items
  pub its_out : out.now ≡ sink_of 1000000 (max given.writes 1) given.failing.writes.items
  pub its_err : err.now ≡ sink_of 1000 1000 given.failing.tellings.items
  pub left : (written.now ≡ came.out) × (told.now ≡ came.err)

-- what came of a run is what the row wants: the error line, the status, and the output, or so many bytes of it
pub record Wants (fields : List Field) (came : Came) (len : ℕ) : Type 0 where
  pub told : came.err.written ≡ spelled (unwrap_or (lines_named fields (codes "err")) [])
  pub status : IsNumber (lines_named fields (codes "status")) 0 came.status
  pub out : WantsOut fields came.out.written len

-- what is given, with the words of this line in place of its own; with this read, or this write, as the only one that fails
pub record WithWords (given : Given) (line : List ℕ) (g : Given) : Type 0 where
  pub same : g ≡ record given { words = g.words }
  pub words : map (λ word. string_bytes word) g.words.items ≡ words_in line

pub record WithRead (given : Given) (call : ℕ) (g : Given) : Type 0 where
  pub same : g ≡ record given { failing = record given.failing { reads = g.failing.reads } }
  pub only : g.failing.reads.items ≡ call ∷ []

pub record WithWrite (given : Given) (call : ℕ) (g : Given) : Type 0 where
  pub same : g ≡ record given { failing = record given.failing { writes = g.failing.writes } }
  pub only : g.failing.writes.items ≡ call ∷ []

-- of all of the output
abbrev pub all : ℕ
all = 2 ^ 64 - 1

module _ {P : Type 0} (calls : Shared P Takes Leaves) (program : P) (fields : List Field) where
  -- a run over this input came to what the row wants; of its `out` so many bytes
  pub record Passes (given : Given) (input : List ℕ) (len : ℕ) : Type 0 where
    pub came : Came
    pub ran : CameOf calls program given input came
    pub wanted : Wants fields came len

  -- one run
  pub record PassesOnce : Type 0 where
    pub given : Given
    pub gives : Gives fields given
    pub len : ℕ
    pub bytes : IsNumber (lines_named fields (codes "out_bytes")) all len
    pub passes : Passes given given.input.items len

  -- a run with each of these lines of words, one at least
  abbrev pub PassesWords : Given → List ℕ → Type 0
  PassesWords given line = (g : Given) × WithWords given line g × Passes g given.input.items all

  pub record PassesEach (lines : List Line) : Type 0 where
    pub given : Given
    pub gives : Gives fields given
    pub some : 1 ≤ length lines
    pub each : AllByRecursion (λ line. PassesWords given line.now) lines

  -- a run over each front of the input from a length on up to another, one at least
  pub record PassesFronts : Type 0 where
    pub given : Given
    pub gives : Gives fields given
    pub first : ℕ
    pub end : ℕ
    pub numbers : AreNumbers (lines_named fields (codes "fronts")) (first ∷ end ∷ [])
    pub some : first < end
    pub each : (len : ℕ) → first ≤ len → len < end → Passes given (take len given.input.items) all

  -- so many runs, one at least, in each of which one read fails; in each of which one write fails, and what was written before is wanted
  abbrev pub PassesRead : Given → ℕ → Type 0
  PassesRead given call = (g : Given) × WithRead given call g × Passes g given.input.items all

  pub record PassesReads : Type 0 where
    pub given : Given
    pub gives : Gives fields given
    pub runs : ℕ
    pub number : IsNumber (lines_named fields (codes "each_read")) 0 runs
    pub some : 1 ≤ runs
    pub each : (call : ℕ) → call < runs → PassesRead given call

  abbrev pub PassesWrite : Given → ℕ → Type 0
  PassesWrite given call = (g : Given) × WithWrite given call g × Passes g given.input.items (min (call * given.writes) all)

  pub record PassesWrites : Type 0 where
    pub given : Given
    pub gives : Gives fields given
    pub runs : ℕ
    pub number : IsNumber (lines_named fields (codes "each_write")) 0 runs
    pub some : 1 ≤ runs
    pub each : (call : ℕ) → call < runs → PassesWrite given call

  -- the runs that a row asks for, by the first of these fields that it has: each came to what the row wants
  abbrev pub PassesBy : Option (List Line) → Option (List Line) → Option (List Line) → Option (List Line) → Type 0
  PassesBy (Some lines) fronts reads writes = PassesEach lines
  PassesBy None (Some fronts) reads writes = PassesFronts
  PassesBy None None (Some reads) writes = PassesReads
  PassesBy None None None (Some writes) = PassesWrites
  PassesBy None None None None = PassesOnce

  abbrev pub PassesAll : Type 0
  PassesAll = PassesBy (lines_named fields (codes "each")) (lines_named fields (codes "fronts")) (lines_named fields (codes "each_read")) (lines_named fields (codes "each_write"))

-- What is known of each stream when its ring has ended.
use Rattle.std.specs.Prelude.{◌≡◌, ◌≢◌, ℕ, ◌<◌, Bool, false, Option, None, Some, IfSome, Result, Ok, Err, OnOk, List, []}
use Rattle.std.specs.Io.KnownBytes.{Appends, Consumes}
use Rattle.sq_base.specs.Ends.{Rose}
use Rattle.live_server.specs.Frames.{answers, frames_in, rest_of}
use Rattle.live_run.specs.Fronts.{AppendsFront, AppendsFrames}
use Rattle.live_run.specs.declared.fault.Fault.{Fault}
use Rattle.live_run.specs.declared.fault.Fault.TheVariants as Fault'
use Rattle.live_rings.specs.declared.ending.Ends.{Ends}
use Rattle.live_rings.specs.declared.ending.EndedRing.{EndedRing}
use Rattle.live_rings.specs.declared.words.Layout.{Layout}
use Rattle.live_rings.specs.Making.{server_of}
use Rattle.histories.specs.Endings.{Ending}
use Rattle.ring_groups.specs.Groups.{AllBecame, AllOfGroups}
use Rattle.turn_gate.specs.History.{Begins}
use Rattle.turn_gate.specs.Passes.{number, seen}
use Rattle.turn_gate.specs.declared.pass.Pass.{Pass}
use Rattle.perimeter_core.specs.History.{Element, Setting}
use Rattle.live_server.specs.Told.{Told, told_frames}
use Rattle.live_chats.specs.Lived.{AreMadeOf, lives, stays_by}

-- what went wrong, where something did
abbrev pub fault_of : Result (Unit {0}) Fault → Option Fault
fault_of (Ok x) = None
fault_of (Err fault) = Some fault

-- However the history goes on of which this pass has seen a beginning: each connection that begins had its own stays in it, with a feed for
-- its beginning and one for each frame that it heard
abbrev pub LivedBy : Setting → Pass Element → List Told → Type 0
LivedBy S p told = (H : List Element) → Begins (seen p) H → AreMadeOf (stays_by S (number p) H) (lives told)

module _ {S K : Type 0} (rest : S → Option (List ℕ)) (reads : S → ℕ) (contents : K → Option (List ℕ)) (faults : K → ℕ) where
  -- A stream was read here and written there, by a server that was set up so. Where nothing of a connection was lost for want of memory, the
  -- sink got what this server answers, or where it failed a front of that: at a frame that is broken or cut all of it, and at a read that
  -- failed what is answered to all that was read. Nothing is lost where the run doesn't go on
  pub record HasServed (setup : Layout) (reader : S) (sink : K) (reader' : S) (sink' : K) (lost : Bool) (result : Result (Unit {0}) Fault) : Type 0 where
    pub written : OnOk result (lost ≡ false → IfSome (rest reader) (λ input. Appends (contents sink) (contents sink') (answers input (server_of setup))))
    pub whole : OnOk result (IfSome (rest reader) (λ input. rest_of input ≡ []))
    pub front : lost ≡ false → IfSome (rest reader) (λ input. AppendsFront (contents sink) (contents sink') (answers input (server_of setup)))
    pub framed : result ≢ Err Fault'.Writing → AppendsFrames (contents sink) (contents sink')
    pub stops : setup.goes_on ≡ false → lost ≡ false
    pub reading : result ≡ Err Fault'.Reading → Rose (reads reader) (reads reader')
    pub writing : result ≡ Err Fault'.Writing → Rose (faults sink) (faults sink')
    pub frames : result ≡ Err Fault'.Frames → IfSome (rest reader) (λ input. rest_of input ≢ [])
    pub answered : result ≡ Err Fault'.Frames → lost ≡ false → IfSome (rest reader) (λ input. Appends (contents sink) (contents sink') (answers input (server_of setup)))
    pub so_far : result ≡ Err Fault'.Reading → lost ≡ false
        → (there : List ℕ) × Consumes (rest reader) (rest reader') there × Appends (contents sink) (contents sink') (answers there (server_of setup))
    pub words : result ≢ Err Fault'.Words

  -- A stream with these ends, which was served by a server that was set up so. Where nothing went wrong its input was whole frames, and its
  -- sink got what one server answers to them; with a fault it got a front of that, if nothing was lost. What went wrong has its cause: a read
  -- failed there, or a write, or its input isn't whole frames. Where a read failed the sink got what is answered to all that was read, and where the input
  -- isn't whole frames what is answered to those that are. Memory may be missing at any time; where the run goes on, that may cost a
  -- connection, and then of what the sink got is known that it is whole frames, unless a write failed
  pub record HasEnded (setup : Layout) (e : Ends S K) (d : EndedRing S K) : Type 0 where
    pub well : d.fault ≡ None → d.lost ≡ false → IfSome (rest e.reader) (λ input. Appends (contents e.sink) (contents d.sink) (answers input (server_of setup)))
    pub whole : d.fault ≡ None → IfSome (rest e.reader) (λ input. rest_of input ≡ [])
    pub front : d.lost ≡ false → IfSome (rest e.reader) (λ input. AppendsFront (contents e.sink) (contents d.sink) (answers input (server_of setup)))
    pub framed : d.fault ≢ Some Fault'.Writing → AppendsFrames (contents e.sink) (contents d.sink)
    pub stops : setup.goes_on ≡ false → d.lost ≡ false
    pub reading : d.fault ≡ Some Fault'.Reading → Rose (reads e.reader) (reads d.reader)
    pub writing : d.fault ≡ Some Fault'.Writing → Rose (faults e.sink) (faults d.sink)
    pub frames : d.fault ≡ Some Fault'.Frames → IfSome (rest e.reader) (λ input. rest_of input ≢ [])
    pub answered : d.fault ≡ Some Fault'.Frames → d.lost ≡ false → IfSome (rest e.reader) (λ input. Appends (contents e.sink) (contents d.sink) (answers input (server_of setup)))
    pub so_far : d.fault ≡ Some Fault'.Reading → d.lost ≡ false
        → (there : List ℕ) × Consumes (rest e.reader) (rest d.reader) there × Appends (contents e.sink) (contents d.sink) (answers there (server_of setup))
    pub others : d.fault ≢ Some Fault'.Words

  -- and where nothing went wrong, and nothing was lost, all that its frames tell was done at a squeue of this setting by the ring's pass
  pub record EndedAt (at : Setting) (setup : Layout) (e : Ends S K) (d : EndedRing S K) : Type 0 where
    pub ended : HasEnded setup e d
    pub lived : d.fault ≡ None → d.lost ≡ false → IfSome (rest e.reader) (λ input. LivedBy at d.pass.value (told_frames (frames_in input) (server_of setup)))

  -- In the history of an ended squeue, one of whose rings had this number, each connection that begins had its own stays, with a feed for its
  -- beginning and one for each frame that it heard
  pub record EndedIn (setup : Layout) (end : Ending) (k : ℕ) (e : Ends S K) (d : EndedRing S K) : Type 0 where
    pub ended : HasEnded setup e d
    pub ring : k < end.setting.rings
    pub lived : d.fault ≡ None → d.lost ≡ false
        → IfSome (rest e.reader) (λ input. AreMadeOf (stays_by end.setting k end.history) (lives (told_frames (frames_in input) (server_of setup))))

  -- so it is of each stream, by number
  abbrev pub AllEnded : Layout → List (Ends S K) → List (EndedRing S K) → Type 0
  AllEnded setup = AllBecame (HasEnded setup)

  -- and of each stream by its squeue and its number there, in order: these are the squeues' ends
  abbrev pub AllLived : Layout → List Ending → List (Ends S K) → List (EndedRing S K) → Type 0
  AllLived setup = AllOfGroups (EndedIn setup)

-- The greatest time, of records and of the packets that they name.
use Rattle.std.proofs.Common.{◌≡◌, ℕ, ◌≤◌, max, List, [], ◌∷◌, map, fold, refl, sym, arith}
use Rattle.std.specs.List.{AllByRecursion}
use Rattle.capture_reader.specs.declared.capture.Record.{Record}
use Rattle.capture_reader.specs.CaptureFile.{Packet, last_time}
use Rattle.capture_reader.specs.Limits.{latest_time}
use Rattle.capture_reader.specs.Outcome.{IsInside, packet_at}

latest_from : (bytes : List ℕ) (a : ℕ) (rs : List Record) → fold (λ (latest : ℕ) (r : Record). max latest r.at) a rs ≡ fold max a (map (λ (p : Packet). p.time) (map (packet_at bytes) rs))
latest_from bytes a [] = refl
latest_from bytes a (r ∷ rs) = latest_from bytes (max a r.at) rs

pub last_time_of : (bytes : List ℕ) (rs : List Record) → last_time (map (packet_at bytes) rs) ≡ fold (λ (latest : ℕ) (r : Record). max latest r.at) 0 rs
last_time_of bytes rs = sym (latest_from bytes 0 rs)

below_from : (bytes : List ℕ) (a : ℕ) (rs : List Record) → a ≤ latest_time → AllByRecursion (IsInside bytes) rs → fold (λ (latest : ℕ) (r : Record). max latest r.at) a rs ≤ latest_time
below_from bytes a [] h inside = h
below_from bytes a (r ∷ rs) h inside = below_from bytes (max a r.at) rs (omega (arith, h, inside.0.time)) inside.1

pub latest_below : (bytes : List ℕ) (rs : List Record) → AllByRecursion (IsInside bytes) rs → fold (λ (latest : ℕ) (r : Record). max latest r.at) 0 rs ≤ latest_time
latest_below bytes rs inside = below_from bytes 0 rs (omega arith) inside

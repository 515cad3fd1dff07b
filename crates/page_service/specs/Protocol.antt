-- A protocol of requests and answers, as a service sees it, and what is owed to the requests of a stream.
use Rattle.std.specs.Prelude.{◌≡◌, ℕ, ◌≤◌, Bool, true, List, [], ◌∷◌, ◌++◌, length, take, drop, Option, None, Some, if◌then◌else◌}

pub record Protocol (A : Type 0) : Type 0 where
  -- at a time, the answer to the request in front of these bytes, and how many bytes that has; None where it isn't whole
  pub answers : ℕ → List ℕ → Option (A × ℕ)
  -- the bytes of an answer, and whether another request may follow it
  pub text : A → List ℕ
  pub keeps : A → Bool

-- one text begins another
abbrev pub IsFront : List ℕ → List ℕ → Type 0
IsFront front whole = (rest : List ℕ) × (front ++ rest ≡ whole)

module _ {A : Type 0} (p : Protocol A) where
  pub record IsProtocol : Type 0 where
    -- a request is known by its own bytes, whatever stands behind them
    pub counted : (at : ℕ) (bytes : List ℕ) (found : A × ℕ) → p.answers at bytes ≡ Some found → found.1 ≤ length bytes
    pub alone : (at : ℕ) (bytes more : List ℕ) (found : A × ℕ) → p.answers at bytes ≡ Some found → p.answers at (take found.1 bytes ++ more) ≡ Some found
    -- an answer has 64 bytes at least
    pub long : (a : A) → 64 ≤ length (p.text a)

  -- an answer, and those to what stands behind its request
  abbrev pub answered : (List ℕ → List ℕ) → List ℕ → Option (A × ℕ) → List ℕ
  answered rest received None = []
  answered rest received (Some found) = p.text found.0 ++ (if p.keeps found.0 then rest (drop found.1 received) else [])

  -- the answers to the requests that stand in what was received, in order, each read at one of these times
  abbrev pub responses : List ℕ → List ℕ → List ℕ
  responses [] received = []
  responses (at ∷ times) received = answered (responses times) received (p.answers at received)

  -- what was received are whole requests, one for each of these times, and each keeps the connection
  abbrev pub KeptAll : List ℕ → List ℕ → Type 0
  KeptAll [] received = received ≡ []
  KeptAll (at ∷ times) received = (found : A × ℕ) × (p.answers at received ≡ Some found) × (p.keeps found.0 ≡ true) × KeptAll times (drop found.1 received)

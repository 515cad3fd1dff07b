-- A bucket that decides one request more.
use Rattle.std.proofs.Common.{◌≡◌, ℕ, ◌+◌, ◌<◌, List, [], ◌∷◌, ◌++◌, length, length-append, take, get_or, refl, ap, sym, ◌∙◌, arith}
use Rattle.std.specs.Prelude.{vec_capacity}
use Rattle.std.proofs.lemmas.List.{take_more}
use Rattle.key_limiter.specs.declared.limiter.Bucket.{Bucket}
use Rattle.key_limiter.specs.declared.limiter.Level.{Level}
use Rattle.key_limiter.specs.declared.limiter.Limit.{Limit}
use Rattle.key_limiter.specs.Buckets.{Decides}
use Rattle.key_limiter.specs.Limiting.{decided_from, decisions_of, full, level_after, level_by, passes}

decided_more : (limit : Limit) (level : Level) (times : List ℕ) (time : ℕ)
    → decided_from limit level (times ++ time ∷ []) ≡ decided_from limit level times ++ passes limit (level_by limit level times) time ∷ []
decided_more limit level [] time = refl
decided_more limit level (t ∷ times) time = ap (λ rest. passes limit level t ∷ rest) (decided_more limit (level_after limit level t) times time)

level_more : (limit : Limit) (level : Level) (times : List ℕ) (time : ℕ) → level_by limit level (times ++ time ∷ []) ≡ level_after limit (level_by limit level times) time
level_more limit level [] time = refl
level_more limit level (t ∷ times) time = level_more limit (level_after limit level t) times time

pub one_decided : (limit : Limit) (row : List ℕ) (time : ℕ) (k next : Bucket) → Decides limit row k → length k.passed.items < length row → time ≡ get_or row (length k.passed.items) 0
    → next.passed.items ≡ k.passed.items ++ passes limit k.level time ∷ [] → next.level ≡ level_after limit k.level time → vec_capacity next.passed ≡ vec_capacity k.passed → Decides limit row next
one_decided limit row time k next h lt is more level room =
    let n = length k.passed.items in
    let grown : length next.passed.items ≡ n + 1 = ap length more ∙ length-append k.passed.items (passes limit k.level time ∷ []) in
    let taken : take (length next.passed.items) row ≡ take n row ++ time ∷ [] = ap (λ (m : ℕ). take m row) grown ∙ (take_more row n 0 lt ∙ ap (λ (t : ℕ). take n row ++ t ∷ []) (sym is)) in
    record {
      within = omega (arith, grown, lt);
      room = omega (arith, room, h.room);
      passed = more ∙ ((λ i. h.passed i ++ passes limit (h.level i) time ∷ []) ∙ sym (ap (decisions_of limit) taken ∙ decided_more limit (full limit) (take n row) time));
      level = level ∙ (ap (λ (l : Level). level_after limit l time) h.level ∙ sym (ap (level_by limit (full limit)) taken ∙ level_more limit (full limit) (take n row) time));
    }

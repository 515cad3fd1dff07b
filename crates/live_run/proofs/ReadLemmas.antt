-- What is said of all that was read, and of a front of it.
use Rattle.std.proofs.Common.{◌≡◌, ◌≢◌, ℕ, List, ◌++◌, take, Option, None, Some, IfSome, Result, Ok, Err, OnOk, sym, ap, subst, ◌∙◌, append-nil}
use Rattle.std.specs.Io.KnownBytes.{Consumes, IsAtEnd}

-- what holds anyhow holds where all went well
pub on_ok : {X E : Type 0} (r : Result X E) (P : Type 0) → P → OnOk r P
on_ok (Ok x) P p = p
on_ok (Err e) P p = tt

pub map_ok : {X E : Type 0} (r : Result X E) (P Q : Type 0) → (P → Q) → OnOk r P → OnOk r Q
map_ok (Ok x) P Q f h = f h
map_ok (Err e) P Q f h = tt

pub not_failed : {X E : Type 0} (x : X) (e : E) → Ok x ≢ Err e
not_failed x e is = cc

-- what was read is all that there was
pub all_read : (first last : Option (List ℕ)) (there : List ℕ) (P : List ℕ → Type 0) → Consumes first last there → IsAtEnd last → P there → IfSome first P
all_read None last there P consumed end holds = tt
all_read (Some all) None there P consumed end holds = absurd consumed
all_read (Some all) (Some rest) there P consumed end holds = subst P (sym (consumed ∙ ap (λ l. there ++ l) end ∙ append-nil there)) holds

-- it is a front of all
pub front_read : (first last : Option (List ℕ)) (there : List ℕ) (P : List ℕ → Type 0) → Consumes first last there → ((more : List ℕ) → P (there ++ more)) → IfSome first P
front_read None last there P consumed holds = tt
front_read (Some all) None there P consumed holds = absurd consumed
front_read (Some all) (Some rest) there P consumed holds = subst P (sym consumed) (holds rest)

-- a read of nothing
pub nothing_read : (n : ℕ) (there buf : List ℕ) → n ≡ 0 → there ++ take n buf ≡ there
nothing_read n there buf none = ap (λ k. there ++ take k buf) none ∙ append-nil there

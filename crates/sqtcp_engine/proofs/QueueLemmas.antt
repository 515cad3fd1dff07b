-- The datagrams that wait, as the rest of a list.
use Rattle.std.proofs.Common.{◌≡◌, ℕ, ◌+◌, ◌≤◌, List, [], ◌++◌, length, drop, sym, ap, ◌∙◌}
use Rattle.std.proofs.lemmas.List.{drop-append-le, drop-drop, drop_all}
use Rattle.live_server.specs.Written.{HasSent}

pub more_waits : {X : Type 0} (n : ℕ) (xs ys zs : List X) → n ≤ length xs → zs ≡ xs ++ ys → drop n zs ≡ drop n xs ++ ys
more_waits n xs ys zs low e = ap (drop n) e ∙ drop-append-le n xs ys low

pub one_less : {X : Type 0} (n : ℕ) (xs : List X) → drop (n + 1) xs ≡ drop 1 (drop n xs)
one_less n xs = sym (drop-drop 1 n xs)

pub none_left : {X : Type 0} (n : ℕ) (xs ys : List X) → length xs ≤ n + 1 → ys ≡ [] → ys ≡ drop 1 (drop n xs)
none_left n xs ys short e = e ∙ sym (drop-drop 1 n xs ∙ drop_all (n + 1) xs short)

pub sent_behind : {X : Type 0} (n : ℕ) (was is all : List X) → n ≤ length was → HasSent was is all → HasSent (drop n was) (drop n is) all
sent_behind n was is all low h = record { some = h.some; behind = more_waits n was h.some is low h.behind; part = h.part }

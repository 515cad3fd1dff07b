-- Feeds of a line that are read one after another.
use Rattle.std.proofs.Common.{arith, ◌≡◌, ◌≢◌, ℕ, List, [], ◌∷◌, ◌++◌, map, codes, refl, subst, ◌∙◌, sym, ap, append_assoc}
use Rattle.std.specs.Fmt.{decimal}
use Rattle.perimeter_core.specs.declared.entries.Feed.{Feed as FeedOf}
use Rattle.perimeter_core.specs.declared.entries.Entry.{Entry}
use Rattle.perimeter_core.specs.declared.entries.Entry.TheVariants.{Feed, Ask}
use Rattle.perimeter_core.specs.Deeds.{entries}
use Rattle.report_lines.specs.ReportText.{line}
use Rattle.report_lines.specs.TraceText.{entered_field}
use Rattle.squeue_replay.specs.Marks.{AreFeeds, IsSmall}
use Rattle.trace_lines.specs.Forms.{filled}
use Rattle.trace_lines.proofs.Numbers.{same_numbers, tail_same}

-- a feed, and what stands behind it
pub feed_joined : (c n end : ℕ) (t : List ℕ) → (decimal c ++ 46 ∷ (decimal n ++ end ∷ [])) ++ t ≡ decimal c ++ 46 ∷ (decimal n ++ end ∷ t)
feed_joined c n end t = simp append_assoc

-- feeds at the front of a line
pub line_more : (c n : ℕ) (es : List Entry) (t : List ℕ) → es ≢ [] → line (map entered_field (Feed c n ∷ es)) ++ t ≡ filled (codes "#.# ") (c ∷ n ∷ []) ++ (line (map entered_field es) ++ t)
line_more c n [] t some = absurd (some refl)
line_more c n (e ∷ es) t some = simp append_assoc

pub line_last : (c n : ℕ) (t : List ℕ) → line (map entered_field (Feed c n ∷ [])) ++ t ≡ filled (codes "#.#\n") (c ∷ n ∷ []) ++ t
line_last c n t = simp append_assoc

cons_some : (e : Entry) (es : List Entry) → e ∷ es ≢ []
cons_some e es h = cc

pub entries_push : (fs : List FeedOf) (f : FeedOf) (es : List Entry) → entries (fs ++ f ∷ []) ++ es ≡ entries fs ++ Feed f.c f.n ∷ es
entries_push [] f es = refl
entries_push (g ∷ fs) f es = ap (λ l. Feed g.c g.n ∷ l) (entries_push fs f es)

pub entries_one_more : (fs : List FeedOf) (f : FeedOf) → entries (fs ++ f ∷ []) ≡ entries fs ++ Feed f.c f.n ∷ []
entries_one_more [] f = refl
entries_one_more (g ∷ fs) f = ap (λ l. Feed g.c g.n ∷ l) (entries_one_more fs f)

feeds_push : (fs : List FeedOf) (f : FeedOf) → AreFeeds (entries fs) → IsSmall f.c → IsSmall f.n → AreFeeds (entries (fs ++ f ∷ []))
feeds_push [] f h c n = (c, n, tt)
feeds_push (g ∷ fs) f h c n = (h.0, h.1, feeds_push fs f h.2 c n)

pub some_pushed : (fs : List FeedOf) (f : FeedOf) → entries (fs ++ f ∷ []) ≢ []
some_pushed [] f h = cc
some_pushed (g ∷ fs) f h = cc

-- how far the feeds of a line were read
pub record FeedsRead (text : List ℕ) (feeds : List FeedOf) (rest : List ℕ) : Type 0 where
  pub small : AreFeeds (entries feeds)
  pub found : (es : List Entry) (t : List ℕ) → es ≢ [] → rest ≡ line (map entered_field es) ++ t → text ≡ line (map entered_field (entries feeds ++ es)) ++ t
  pub owed : (es : List Entry) (t : List ℕ) → es ≢ [] → AreFeeds es → text ≡ line (map entered_field es) ++ t → (due : List Entry) × ((due ≢ []) × AreFeeds due × (rest ≡ line (map entered_field due) ++ t))

-- what is owed behind a feed and a space
owed_behind : (c n : ℕ) (rest others t : List ℕ) (due : List Entry) → IsSmall c → IsSmall n → rest ≡ filled (codes "#.# ") (c ∷ n ∷ []) ++ others → due ≢ [] → AreFeeds due
    → rest ≡ line (map entered_field due) ++ t → (es : List Entry) × ((es ≢ []) × AreFeeds es × (others ≡ line (map entered_field es) ++ t))
owed_behind c n rest others t [] sc sn here some feeds e = absurd (some refl)
owed_behind c n rest others t (Ask p ∷ es) sc sn here some feeds e = absurd feeds
owed_behind c n rest others t (Feed d m ∷ []) sc sn here some feeds e =
    let both : decimal c ++ 46 ∷ (decimal n ++ 32 ∷ others) ≡ decimal d ++ 46 ∷ (decimal m ++ 10 ∷ t) = sym (feed_joined c n 32 others) ∙ (sym here ∙ (e ∙ (line_last d m t ∙ feed_joined d m 10 t))) in
    let first = same_numbers c d (46 ∷ (decimal n ++ 32 ∷ others)) (46 ∷ (decimal m ++ 10 ∷ t)) (omega (arith, sc)) (omega (arith, feeds.0)) refl refl both in
    let second = same_numbers n m (32 ∷ others) (10 ∷ t) (omega (arith, sn)) (omega (arith, feeds.1)) refl refl (tail_same 46 _ _ first.1) in
    let never : ⊥ = grind (arith, second.1) in
    absurd never
owed_behind c n rest others t (Feed d m ∷ e2 ∷ es) sc sn here some feeds e =
    let others_are : List ℕ = line (map entered_field (e2 ∷ es)) ++ t in
    let both : decimal c ++ 46 ∷ (decimal n ++ 32 ∷ others) ≡ decimal d ++ 46 ∷ (decimal m ++ 32 ∷ others_are) =
    sym (feed_joined c n 32 others) ∙ (sym here ∙ (e ∙ (line_more d m (e2 ∷ es) t (cons_some e2 es) ∙ feed_joined d m 32 others_are))) in
    let first = same_numbers c d (46 ∷ (decimal n ++ 32 ∷ others)) (46 ∷ (decimal m ++ 32 ∷ others_are)) (omega (arith, sc)) (omega (arith, feeds.0)) refl refl both in
    let second = same_numbers n m (32 ∷ others) (32 ∷ others_are) (omega (arith, sn)) (omega (arith, feeds.1)) refl refl (tail_same 46 _ _ first.1) in
    (e2 ∷ es, (cons_some e2 es, feeds.2, tail_same 32 _ _ second.1))

-- a feed and a space are read
pub feeds_more : (text rest others : List ℕ) (feeds : List FeedOf) (f : FeedOf) → FeedsRead text feeds rest → IsSmall f.c → IsSmall f.n → rest ≡ filled (codes "#.# ") (f.c ∷ f.n ∷ []) ++ others
    → FeedsRead text (feeds ++ f ∷ []) others
feeds_more text rest others feeds f r c n here = record {
  small = feeds_push feeds f r.small c n;
  found = λ es t some e.
      let all : rest ≡ line (map entered_field (Feed f.c f.n ∷ es)) ++ t = here ∙ (ap (λ l. filled (codes "#.# ") (f.c ∷ f.n ∷ []) ++ l) e ∙ sym (line_more f.c f.n es t some)) in
      subst (λ l. text ≡ line (map entered_field l) ++ t) (sym (entries_push feeds f es)) (r.found (Feed f.c f.n ∷ es) t (cons_some (Feed f.c f.n) es) all);
  owed = λ es t some small e.
      let due = r.owed es t some small e in
      owed_behind f.c f.n rest others t due.0 c n here due.1.0 due.1.1 due.1.2;
}

-- and the last one
pub feeds_last : (text rest others : List ℕ) (feeds : List FeedOf) (f : FeedOf) → FeedsRead text feeds rest → IsSmall f.c → IsSmall f.n → rest ≡ filled (codes "#.#\n") (f.c ∷ f.n ∷ []) ++ others
    → (entries (feeds ++ f ∷ []) ≢ []) × AreFeeds (entries (feeds ++ f ∷ [])) × (text ≡ line (map entered_field (entries (feeds ++ f ∷ []))) ++ others)
feeds_last text rest others feeds f r c n here =
    let all : rest ≡ line (map entered_field (Feed f.c f.n ∷ [])) ++ others = here ∙ sym (line_last f.c f.n others) in (
      some_pushed feeds f,
      feeds_push feeds f r.small c n,
      subst (λ l. text ≡ line (map entered_field l) ++ others) (sym (entries_one_more feeds f)) (r.found (Feed f.c f.n ∷ []) others (cons_some (Feed f.c f.n) []) all),
    )

owed_none : (rest t : List ℕ) (due : List Entry)
    → ((c n : ℕ) (after : List ℕ) → IsSmall c → IsSmall n → rest ≡ filled (codes "#.# ") (c ∷ n ∷ []) ++ after → ⊥)
    → ((c n : ℕ) (after : List ℕ) → IsSmall c → IsSmall n → rest ≡ filled (codes "#.#\n") (c ∷ n ∷ []) ++ after → ⊥)
    → due ≢ [] → AreFeeds due → rest ≡ line (map entered_field due) ++ t → ⊥
owed_none rest t [] more last some feeds e = some refl
owed_none rest t (Ask p ∷ es) more last some feeds e = feeds
owed_none rest t (Feed c n ∷ []) more last some feeds e = last c n t feeds.0 feeds.1 (e ∙ line_last c n t)
owed_none rest t (Feed c n ∷ e2 ∷ es) more last some feeds e =
    more c n (line (map entered_field (e2 ∷ es)) ++ t) feeds.0 feeds.1 (e ∙ line_more c n (e2 ∷ es) t (cons_some e2 es))

-- no feed is read
pub feeds_fail : (text rest : List ℕ) (feeds : List FeedOf) → FeedsRead text feeds rest
    → ((c n : ℕ) (after : List ℕ) → IsSmall c → IsSmall n → rest ≡ filled (codes "#.# ") (c ∷ n ∷ []) ++ after → ⊥)
    → ((c n : ℕ) (after : List ℕ) → IsSmall c → IsSmall n → rest ≡ filled (codes "#.#\n") (c ∷ n ∷ []) ++ after → ⊥)
    → (es : List Entry) (t : List ℕ) → es ≢ [] → AreFeeds es → text ≡ line (map entered_field es) ++ t → ⊥
feeds_fail text rest feeds r more last es t some small e =
    let due = r.owed es t some small e in
    owed_none rest t due.0 more last due.1.0 due.1.1 due.1.2

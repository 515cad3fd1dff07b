-- Steps behind steps, and what a server becomes by them.
use Rattle.std.proofs.Common.{◌≡◌, Bool, true, false, cond, List, [], ◌∷◌, ◌++◌, length, refl, sym, ap, subst, ◌∙◌, append_assoc, append-nil, arith}
use Rattle.std.specs.List.{IsDistinct}
use Rattle.std.specs.Map.{keys_of, lookup}
use Rattle.sq_base.specs.declared.kinds.Tuple.{Tuple}
use Rattle.live_server.specs.Isolation.{conn_of, IsTable}
use Rattle.live_server.specs.Serving.{Outcome, ServerOf, sends_nothing}
use Rattle.live_server.specs.Table.{Conns, tuple_eq}
use Rattle.live_server.specs.declared.acting.Datagram.{Datagram}
use Rattle.live_server.specs.declared.setting.Setting.{Setting}
use Rattle.live_chats.specs.Chats.{Chats, Item, Run, Said, Step, chats_of, one_step, runs, said, sends, tells, with_chat}
use Rattle.live_chats.specs.Ways.{Shows}

-- a run behind what was sent
abbrev pub behind : List Datagram → Run → Run
behind ds r = record { chats = r.chats; sent = ds ++ r.sent }

pub runs_append : (g : Setting) (ws vs : List Step) (all : Chats) → runs g (ws ++ vs) all ≡ behind (runs g ws all).sent (runs g vs (runs g ws all).chats)
runs_append g [] vs all = refl
runs_append g (w ∷ ws) vs all =
    let here = one_step g w all in
    let rest = runs g vs (runs g ws here.chats).chats in
    let more : behind here.sent (runs g (ws ++ vs) here.chats) ≡ behind here.sent (behind (runs g ws here.chats).sent rest) = ap (behind here.sent) (runs_append g ws vs here.chats) in
    let assoc : behind here.sent (behind (runs g ws here.chats).sent rest) ≡ behind (here.sent ++ (runs g ws here.chats).sent) rest =
    λ j. record { chats = rest.chats; sent = sym (append_assoc here.sent (runs g ws here.chats).sent rest.sent) j } in
    more ∙ assoc

-- steps show what becomes of a server, which stays a table with its setting
pub record IsRight (sv : ServerOf) (ws : List Step) (o : Outcome) : Type 0 where
  pub shows : Shows sv ws o
  pub setting : o.server.setting ≡ sv.setting
  pub table : IsTable o.server

pub nothing_right : (sv : ServerOf) → IsTable sv → IsRight sv [] (sends_nothing sv)
nothing_right sv table = record { shows = refl; setting = refl; table = table }

-- nothing of the chats has changed
pub quiet_right : (sv new : ServerOf) → new.conns ≡ sv.conns → new.setting ≡ sv.setting → IsTable sv → IsTable new
quiet_right sv new same places table = record {
  once = subst (λ (l : Conns). IsDistinct tuple_eq (keys_of l)) (sym same) table.once;
  bounded = omega (arith, ap (λ (l : Conns). length l) same, ap (λ (g : Setting). g.places) places, table.bounded);
}

pub then_right : (sv : ServerOf) (ws vs : List Step) (o p : Outcome) → IsRight sv ws o → IsRight o.server vs p → IsRight sv (ws ++ vs) (record { server = p.server; sent = o.sent ++ p.sent })
then_right sv ws vs o p first next = record {
  shows = whole;
  setting = next.setting ∙ first.setting;
  table = next.table;
}
  where
    joined : runs sv.setting (ws ++ vs) (chats_of sv) ≡ behind o.sent (runs sv.setting vs (chats_of o.server))
    joined = runs_append sv.setting ws vs (chats_of sv) ∙ ap (λ (r : Run). behind r.sent (runs sv.setting vs r.chats)) first.shows

    placed : behind o.sent (runs sv.setting vs (chats_of o.server)) ≡ behind o.sent (runs o.server.setting vs (chats_of o.server))
    placed = ap (λ (g : Setting). behind o.sent (runs g vs (chats_of o.server))) (sym first.setting)

    whole : Shows sv (ws ++ vs) (record { server = p.server; sent = o.sent ++ p.sent })
    whole = joined ∙ placed ∙ ap (behind o.sent) next.shows

-- the same from a server that has the same connections and setting
pub moved_right : (a b : ServerOf) → a.conns ≡ b.conns → a.setting ≡ b.setting → (ws : List Step) (o : Outcome) → IsRight a ws o → IsRight b ws o
moved_right a b conns setting ws o right = record {
  shows = (λ j. runs (sym setting j) ws (λ q. lookup (tuple_eq q) (sym conns j))) ∙ right.shows;
  setting = right.setting ∙ setting;
  table = right.table;
}

-- one connection is told something
pub told_shows : (sv : ServerOf) (t : Tuple) (x : Item) (o : Outcome) (s : Said) → said sv.setting t x (conn_of t sv) ≡ s
    → ((q : Tuple) → conn_of q o.server ≡ cond (tuple_eq t q) s.conn (conn_of q sv)) → o.sent ≡ s.sent → Shows sv (tells t x ∷ []) o
told_shows sv t x o s is looks sent = heard ∙ known
  where
    heard : ◌≡◌ {A = Run} (runs sv.setting (tells t x ∷ []) (chats_of sv)) (record { chats = with_chat t s.conn (chats_of sv); sent = s.sent ++ [] })
    heard = λ j. record { chats = with_chat t (is j).conn (chats_of sv); sent = (is j).sent ++ [] }

    out : s.sent ++ [] ≡ o.sent
    out = append-nil s.sent ∙ sym sent

    known : ◌≡◌ {A = Run} (record { chats = with_chat t s.conn (chats_of sv); sent = s.sent ++ [] }) (record { chats = chats_of o.server; sent = o.sent })
    known = λ j. record { chats = λ q. sym (looks q) j; sent = out j }

pub sent_shows : (sv new : ServerOf) (ds : List Datagram) → new.conns ≡ sv.conns → Shows sv (sends ds ∷ []) (record { server = new; sent = ds })
sent_shows sv new ds same = λ j. record { chats = λ q. lookup (tuple_eq q) (sym same j); sent = append-nil ds j }

pub chosen_right : (b : Bool) (sv : ServerOf) (ws vs : List Step) (o p : Outcome) → IsRight sv ws o → IsRight sv vs p → IsRight sv (cond b ws vs) (cond b o p)
chosen_right true sv ws vs o p here there = here
chosen_right false sv ws vs o p here there = there

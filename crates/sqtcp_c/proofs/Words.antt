-- A `Held`, taken apart and put together, as `Words` of c_handle does it with a `Loose`. Assumes `Logic`.
use Rattle.std.proofs.Common.{◌≡◌, List, [], ◌∷◌, ◌++◌, refl, subst}
use seplogic.Ra.Ura.{Ura}
use mir.Val.{Val, vstruct, of_list}
use types.Logic.{Logic}
use types.Kit.{Item, Goal, Seq, Step, step, ‵, ◌$◌, move, drop, fsplit, fjoin, fpick, fpack, feq_i, feq_l}
use denote.RattleType.{RattleType, Valss}
use denote.RawPtr.{Ptr, ptr_val}
use denote.Steps.{nothing}
use denote.Param.{layout}
use denote.Param.Laws.{Laws}
use denote.Struct.Struct.{within}
use denote.Struct.Owning.{shape, fields, to}
use Rattle.std.proofs.alloc.Calls.{handle_tells}
use Rattle.std.proofs.cell.Inside.{Good}
use Rattle.std.specs.contracts.alloc.Global as heap
use Rattle.std.proofs.alloc.Global.TheLaws as heap_laws
use Rattle.std.specs.contracts.impls.GlobalAllocator.TheImpl.{ghosts}
use Rattle.std.specs.declared.option.Option.{Option}
use Rattle.c_handle.specs.Held.{held}
use Rattle.c_handle.proofs.Words.{word, al}
use Rattle.sqtcp_engine.specs.contracts.engine.Engine.{the_row as Inner}
use Rattle.sqtcp_c.specs.contracts.held.Held as outer

abbrev pub R : RattleType
R = Inner

abbrev pub Z : RattleType
Z = heap.the_row

abbrev pub LZ : Laws Z
LZ = heap_laws.the_row_laws

module _ {M : Type 1} {𝓤 : Ura M} {𝓛 : Logic 𝓤} {K : Type 0} {Γ : List (Item 𝓤)} {G : Goal 𝓤 𝓛.H} where
  pub held_apart : K → (d : (outer.the_row).Denot) (vs : List Val)
      → ((h : Val) → vs ≡ word (ptr_val d.at) h ∷ [] → Good (layout Z) h → Seq K 𝓛 (‵ (held (ghosts.dealloc_token d.alloc) R d.at d.value) ∷ ‵ (Z.own_val d.alloc (h ∷ [])) ∷ Γ) G)
      → Seq K 𝓛 (‵ ((outer.the_row).own_val d vs) ∷ Γ) G
  held_apart t d vs k =
      fsplit t $ fpick t (λ vss. fsplit t $ feq_l t (λ whole. fsplit t $ feq_l t (λ first. fsplit t $ handle_tells (al R Z LZ ghosts) t d.alloc vss.1.0 (λ h second fits. move t (1 ∷ []) $ drop t $ move t (1 ∷ []) $ k h
      (subst (λ (ws : List Val). vs ≡ vstruct (of_list (ptr_val d.at ∷ (ws ++ []))) ∷ []) second
      (subst (λ (ps : List Val). vs ≡ vstruct (of_list (ps ++ (vss.1.0 ++ []))) ∷ []) first whole)) fits))))

  pub held_together : K → (p : Ptr) (h : Val) (a : Z.Denot) (o : Option R.Denot)
      → Step K 𝓛 (‵ ((outer.the_row).own_val (record { at = p; alloc = a; value = o }) (word (ptr_val p) h ∷ [])) ∷ Γ) G (‵ (held (ghosts.dealloc_token a) R p o) ∷ ‵ (Z.own_val a (h ∷ [])) ∷ Γ) G
  held_together t p h a o = step (λ s. let v : Val = word (ptr_val p) h in
      nothing t $ move t (2 ∷ 0 ∷ []) $ fjoin t $ feq_i t (List Val) (ptr_val p ∷ []) (ptr_val p ∷ []) refl $ fjoin t $ feq_i t (List Val) (v ∷ []) (v ∷ []) refl $ fjoin t $
      fpack t (Valss (fields (outer.the_type))) (within (shape (outer.the_type)) (to (outer.the_type) (record { at = p; alloc = a; value = o })) (v ∷ [])) (ptr_val p ∷ [], (h ∷ [], tt)) $ fjoin t $ s)

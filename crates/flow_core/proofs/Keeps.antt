-- Every event keeps parts 2 to 5 and 7, and an honest one the others
use Rattle.std.proofs.Common.{◌≡◌, ℕ, ◌+◌, ◌<◌, ◌≤◌, Bool, true, false, nat_lt, List, [], ◌∷◌}
use Rattle.std.proofs.Common.{length, get_or, set, take, refl, sym, ◌∙◌, ap, subst, inl, inr, arith}
use Rattle.std.proofs.Common.{Option, Some, None, is_some}
use Rattle.std.specs.Option.{option_map_or}
use Rattle.std.proofs.lemmas.List.{length-map, length-replicate}
use Rattle.std.proofs.lemmas.Bool.{and_parts, eqb-true, ltb-true, le-ltb}
use Rattle.flow_core.specs.declared.state.Phase.{Phase}
use Rattle.flow_core.specs.declared.state.Phase.TheVariants.{Waiting, Held, Done, Refused}
use Rattle.flow_core.specs.declared.state.Event.{Event}
use Rattle.flow_core.specs.declared.state.Event.TheVariants.{Take, Publish, Release, Finish, Refuse}
use Rattle.flow_core.specs.declared.state.State.{State}
use Rattle.flow_core.specs.declared.state.Hold.{Hold}
use Rattle.flow_core.specs.Counts.{times}
use Rattle.flow_core.specs.Net.{Net, IsNet, writes_of, preds_of, succs_of}
use Rattle.flow_core.specs.Flow.{Flow, IsFlow, Refuses, Gives, HasValue, start_of, answer_of}
use Rattle.flow_core.specs.Core.{missing_of, phase_of, published_at, released_at, releases}
use Rattle.flow_core.specs.Core.{HoldsValues, AnswersKept, IsSound, IsKept}
use Rattle.flow_core.specs.Events.{holding, is_waiting, can_publish, can_release, can_finish}
use Rattle.flow_core.specs.Events.{can_refuse, is_enabled, turned, published, released, refused}
use Rattle.flow_core.specs.Events.{after, after_all, opening, opening_of, CanStart, IsHonest}
use Rattle.flow_core.specs.Events.{AreHonest}
use Rattle.flow_core.proofs.Totals.{total_none, is_in_at}
use Rattle.flow_core.proofs.Lists.{set_all, get_or-all_same, get_or-map_length}
use Rattle.flow_core.proofs.Steady.{awaited, Steady, steady, sound, turns, refuses, releases_next}
use Rattle.flow_core.proofs.Steady.{publishes_next}
use Rattle.flow_core.proofs.Holding.{holds_found, holds_none, is_none_true, cond_cases, holds_after}

pub waiting_true : (p : Phase) → is_waiting p ≡ true → p ≡ Waiting
waiting_true Waiting e = refl
waiting_true (Held w a b) e = cc
waiting_true Done e = cc
waiting_true Refused e = cc

-- what an enabled take knows
pub record Ready (n : Net) (s : State) (w k : ℕ) : Type 0 where
  pub free : holding s w ≡ None
  pub near : k < n.strands
  pub waits : phase_of s k ≡ Waiting
  pub none_missing : missing_of s k ≡ 0

pub ready_from : (n : Net) (s : State) (w k : ℕ) → is_enabled n s (Take w k) ≡ true → Ready n s w k
ready_from n s w k e = let a = and_parts _ _ e in let b = and_parts _ _ a.1 in
    let c = and_parts _ _ b.1 in
    record {
      free = is_none_true (holding s w) a.0;
      near = ltb-true k n.strands b.0;
      waits =
          waiting_true (phase_of s k) c.0;
      none_missing = eqb-true (missing_of s k) 0 c.1;
    }

module _ (n : Net) (ok : IsNet n) (s : State) (h : Steady n s) where
  takes : (w k : ℕ) → Ready n s w k → Steady n (turned s k (Held w 0 0))
  takes w k r = let is = r.waits in let l = r.near in let e = h.fits.phase_each in
      let z = r.none_missing in
      turns n ok s h k (Held w 0 0) (omega arith) (ap (published_at n k) (sym is))
      (ap (released_at n k) (sym is))
      (let x : awaited (phase_of s k) (missing_of s k) ≡ missing_of s k =
      ap (λ (q : Phase). awaited q (missing_of s k)) is in omega arith) (
        (let g : 0 ≤ length (writes_of n k) = omega arith in
            g),
        (let g : 0 ≤ length (succs_of n k) = omega arith in g),
        λ some. absurd (omega arith),
      )
      (λ q. cc) (λ q. cc)
      (λ v a b j a' b' q held. let v-is : v ≡ w = cc in
      absurd (holds_none s w r.free j a' b' (held ∙ ap (λ (u : ℕ). Held u a' b') v-is)))

  finishes : (w : ℕ) (x : Hold) → holding s w ≡ Some x → can_finish n x ≡ true
      → Steady n (turned s x.strand Done)
  finishes w x e t = let f = holds_found s w x e in let is = f.1 in let c = and_parts _ _ t in
      let full = eqb-true x.published (length (writes_of n x.strand)) c.0 in
      let told = eqb-true x.released (length (succs_of n x.strand)) c.1 in
      turns n ok s h x.strand Done f.0 (sym full ∙ ap (published_at n x.strand) (sym is))
      (sym told ∙ ap (released_at n x.strand) (sym is))
      (ap (λ (q : Phase). awaited q (missing_of s x.strand)) (sym is)) tt (λ q. cc) (λ q. cc)
      (λ v a b j a' b' q held. cc)

pub keeps_steady : (n : Net) → IsNet n → (s : State) → Steady n s → (e : Event)
    → Steady n (after n s e)
keeps_steady n ok s h (Take w k) = cond_cases (Steady n) (is_enabled n s (Take w k))
    (turned s k (Held w 0 0)) s (λ t. takes n ok s h w k (ready_from n s w k t)) (λ _. h)
keeps_steady n ok s h (Publish w v) = holds_after (Steady n) (holding s w) (can_publish n)
    (published n s w v) s h
    (λ x e t. let f = holds_found s w x e in
    publishes_next n ok s h x.strand w x.published x.released v f.0 f.1
    (ltb-true x.published (length (writes_of n x.strand)) t))
keeps_steady n ok s h (Release w) = holds_after (Steady n) (holding s w) (can_release n)
    (released n s w) s h
    (λ x e t. let f = holds_found s w x e in let c = and_parts _ _ t in
    releases_next n ok s h x.strand w x.published x.released f.0 f.1
    (eqb-true x.published (length (writes_of n x.strand)) c.0)
    (ltb-true x.released (length (succs_of n x.strand)) c.1))
keeps_steady n ok s h (Finish w) = holds_after (Steady n) (holding s w) (can_finish n)
    (λ x. turned s x.strand Done) s h (λ x e t. finishes n ok s h w x e t)
keeps_steady n ok s h (Refuse w) = holds_after (Steady n) (holding s w) can_refuse (refused s) s h
    (λ x e t. let f = holds_found s w x e in let c = and_parts _ _ t in
    let p : x.published ≡ 0 = eqb-true x.published 0 c.0 in
    let q : x.released ≡ 0 = eqb-true x.released 0 c.1 in
    let is : phase_of s x.strand ≡ Held w 0 0 = f.1 ∙ (λ i. Held w (p i) (q i)) in
    refuses n ok s h x.strand w f.0 is)

pub keeps_sound : (n : Net) → IsNet n → (s : State) → IsSound n s → (e : Event)
    → IsSound n (after n s e)
keeps_sound n ok s h e = sound n (after n s e) (keeps_steady n ok s (steady n s h) e)

-- parts 1 and 6
pub record Honest (f : Flow) (s : State) : Type 0 where
  pub holds_values : HoldsValues f s
  pub answers_kept : AnswersKept f s

-- a strand goes to a phase that its answer allows
goes : (f : Flow) (s : State) (k : ℕ) (p : Phase) → k < length s.phase → Honest f s
    → (p ≡ Done → (xs : List ℕ) × (answer_of f k ≡ Gives xs))
    → (p ≡ Refused → answer_of f k ≡ Refuses)
    → AnswersKept f (turned s k p)
goes f s k p near h done stopped = let all = set_all s.phase k p Waiting in record {
  done_gives = all (λ j q. q ≡ Done → (xs : List ℕ) × (answer_of f j ≡ Gives xs)) near done
      (λ j ne. h.answers_kept.done_gives j);
  refused_refuses = all (λ j q. q ≡ Refused → answer_of f j ≡ Refuses) near stopped
      (λ j ne. h.answers_kept.refused_refuses j);
}

enabled_at : (o : Option Hold) (test : Hold → Bool) (x : Hold) → o ≡ Some x → test x ≡ true
    → option_map_or test o false ≡ true
enabled_at o test x e t = ap (λ (y : Option Hold). option_map_or test y false) e ∙ t

-- an answer's value in the next cell of its strand
values_after : (f : Flow) → IsFlow f → (s : State) → HoldsValues f s → (k i : ℕ) (xs : List ℕ)
    → i < length (writes_of f.net k) → get_or (writes_of f.net k) i 0 < length s.cells
    → answer_of f k ≡ Gives xs
    → (p : List Phase) (m : List ℕ) (l : Option ℕ)
    → HoldsValues f record {
      cells = set s.cells (get_or (writes_of f.net k) i 0)
          (Some (get_or xs i 0));
      missing = m;
      phase = p;
      least = l;
    }
values_after f flow s h k i xs near near-c gives p m l = let c : ℕ =
    get_or (writes_of f.net k) i 0 in let x : ℕ = get_or xs i 0 in
    let all = set_all s.cells c (Some x) None in record {
      starts = λ c' x'. all (λ j o. start_of f j ≡ Some x' → o ≡ Some x') near-c (λ e. let none =
          flow.written_no_start k c (is_in_at (writes_of f.net k) i near) in
          cc) (λ j ne. h.starts j x') c';
      values = λ c' x'. all (λ j o. o ≡ Some x' → HasValue f j x') near-c
          (λ e. let same-x : x ≡ x' = cc in
          inr (
            k,
            record {
              values = xs;
              place = i;
              gives = gives;
              near = near;
              cell = refl;
              value =
                  same-x;
            },
          )) (λ j ne. h.values j x') c';
    }

pub keeps_honest : (f : Flow) → IsNet f.net → IsFlow f → (s : State) → Steady f.net s → Honest f s
    → (e : Event) → IsHonest f s e → Honest f (after f.net s e)
keeps_honest f ok flow s h hon (Take w k) says =
    cond_cases (Honest f) (is_enabled f.net s (Take w k)) (turned s k (Held w 0 0)) s
    (λ t. let r = ready_from f.net s w k t in let l = r.near in let e = h.fits.phase_each in
    record {
      holds_values = record {
        starts = hon.holds_values.starts;
        values =
            hon.holds_values.values;
      };
      answers_kept = goes f s k (Held w 0 0) (omega arith) hon
          (λ q. cc) (λ q. cc);
    }) (λ _. hon)
keeps_honest f ok flow s h hon (Publish w v) says =
    holds_after (Honest f) (holding s w) (can_publish f.net) (published f.net s w v) s hon
    (λ x e t. let r = holds_found s w x e in
    let left = ltb-true x.published (length (writes_of f.net x.strand)) t in
    let a = says x e (enabled_at (holding s w) (can_publish f.net) x e t) in
    let in-writes = is_in_at (writes_of f.net x.strand) x.published left in
    let l = ok.writes_near x.strand (get_or (writes_of f.net x.strand) x.published 0) in-writes in
    let m = h.fits.cells_each in
    let p : List Phase = set s.phase x.strand (Held w (x.published + 1) x.released) in
    let kept = goes f s x.strand (Held w (x.published + 1) x.released) r.0 hon (λ q. cc)
    (λ q. cc) in
    record {
      holds_values = subst (λ (y : ℕ). HoldsValues f record {
        cells = set s.cells (get_or (writes_of f.net x.strand) x.published 0) (Some y);
        missing = s.missing;
        phase = p;
        least = s.least;
      }) a.2
          (values_after f flow s hon.holds_values x.strand x.published a.0 left
          (omega arith) a.1 p s.missing s.least);
      answers_kept = record {
        done_gives = kept.done_gives;
        refused_refuses =
            kept.refused_refuses;
      };
    })
keeps_honest f ok flow s h hon (Release w) says =
    holds_after (Honest f) (holding s w) (can_release f.net) (released f.net s w) s hon
    (λ x e t. let r = holds_found s w x e in
    let kept = goes f s x.strand (Held w x.published (x.released + 1)) r.0 hon (λ q. cc)
    (λ q. cc) in
    record {
      holds_values = record {
        starts = hon.holds_values.starts;
        values =
            hon.holds_values.values;
      };
      answers_kept =
          record { done_gives = kept.done_gives; refused_refuses = kept.refused_refuses };
    })
keeps_honest f ok flow s h hon (Finish w) says =
    holds_after (Honest f) (holding s w) (can_finish f.net) (λ x. turned s x.strand Done) s hon
    (λ x e t. let r = holds_found s w x e in
    let a = says x e (enabled_at (holding s w) (can_finish f.net) x e t) in
    let kept = goes f s x.strand Done r.0 hon (λ _. a) (λ q. cc) in
    record {
      holds_values = record {
        starts = hon.holds_values.starts;
        values =
            hon.holds_values.values;
      };
      answers_kept =
          record { done_gives = kept.done_gives; refused_refuses = kept.refused_refuses };
    })
keeps_honest f ok flow s h hon (Refuse w) says = holds_after (Honest f) (holding s w) can_refuse
    (refused s) s hon
    (λ x e t. let r = holds_found s w x e in
    let a = says x e (enabled_at (holding s w) can_refuse x e t) in
    let kept = goes f s x.strand Refused r.0 hon (λ q. cc) (λ _. a) in
    record {
      holds_values = record {
        starts = hon.holds_values.starts;
        values =
            hon.holds_values.values;
      };
      answers_kept =
          record { done_gives = kept.done_gives; refused_refuses = kept.refused_refuses };
    })

pub keeps_kept : (f : Flow) → IsNet f.net → IsFlow f → (s : State) → IsKept f s → (e : Event)
    → IsHonest f s e
    → IsKept f (after f.net s e)
keeps_kept f ok flow s h e honest =
    let st = steady f.net s h.sound in
    let before : Honest f s = record {
      holds_values = h.holds_values;
      answers_kept =
          h.answers_kept;
    } in
    let hon = keeps_honest f ok flow s st before e honest in
    record {
      sound = sound f.net (after f.net s e) (keeps_steady f.net ok s st e);
      holds_values = hon.holds_values;
      answers_kept = hon.answers_kept;
    }

pub keeps_all : (f : Flow) → IsNet f.net → IsFlow f → (s : State) → IsKept f s → (es : List Event)
    → AreHonest f s es
    → IsKept f (after_all f.net s es)
keeps_all f ok flow s h [] says = h
keeps_all f ok flow s h (e ∷ es) says =
    keeps_all f ok flow (after f.net s e) (keeps_kept f ok flow s h e says.0) es says.1

pub waits_first : (n : Net) (start : List (Option ℕ)) (k : ℕ)
    → phase_of (opening_of n start) k ≡ Waiting
waits_first n start k = get_or-all_same n.strands k Waiting

pub waits_at_first : (f : Flow) (k : ℕ) → phase_of (opening f) k ≡ Waiting
waits_at_first f k = waits_first f.net f.start k

pub opens_sound : (n : Net) (start : List (Option ℕ)) → IsNet n → CanStart n start
    → IsSound n (opening_of n start)
opens_sound n start ok can = let s : State = opening_of n start in
    let waits = waits_first n start in record {
      fits = record {
        cells_each = can.each;
        missing_each = length-map n.preds length
            ∙ ok.preds_each;
        phase_each = length-replicate n.strands Waiting;
      };
      holds_one = λ w j k a b a' b' e e'. let x = waits j in cc;
      counts_missing = λ k _. let m = get_or-map_length n.preds k in
          let none = total_none (releases n s k) (preds_of n k)
          (λ p. ap (λ (q : Phase). times k (take (released_at n p q) (succs_of n p))) (waits p)) in
          omega arith;
      begun_released = λ k e. absurd (e (waits k));
      fills_first = record {
        filled = λ k i lt. ap is_some
            (can.free k (get_or (writes_of n k) i 0) (is_in_at (writes_of n k) i lt))
            ∙ sym (le-ltb i 0 (omega arith)) ∙ ap (λ (q : Phase). nat_lt i (published_at n k q))
            (sym (waits k));
        few = λ k w a b e. let x = waits k in cc;
        published_first = λ k w a b e. let x = waits k in cc;
      };
      least_refused = λ k e. let x = waits k in cc;
    }

pub opens : (f : Flow) → IsNet f.net → IsFlow f → IsKept f (opening f)
opens f ok flow = let waits = waits_at_first f in record {
  sound = opens_sound f.net f.start ok record {
    each = flow.start_each;
    free =
        flow.written_no_start;
  };
  holds_values = record { starts = λ c x e. e; values = λ c x e. inl e };
  answers_kept = record {
    done_gives = λ k e. let x = waits k in
        cc;
    refused_refuses = λ k e. let x = waits k in cc;
  };
}

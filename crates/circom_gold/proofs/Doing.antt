-- What a run does with the answer to its command.
use Rattle.std.proofs.Common.{◌≡◌, ◌≢◌, ◌∙◌, ◌⊎◌, ◌++◌, ℕ, List, []}
use Rattle.std.proofs.Common.{Option, Some, None, Result}
use Rattle.std.proofs.Common.{Ok, Err, IfOk, IfSome, ap, refl, subst, sym, inl, inr, arith}
use Rattle.std.proofs.lemmas.List.{append-nil, append_cancel_left}
use Rattle.std.proofs.lemmas.Result.{IfOk-weaker}
use Rattle.std.specs.Result.{result_ok}
use Rattle.std.specs.declared.alloc.AllocError.{AllocError}
use Rattle.out_io.specs.Contents.{Contents}
use Rattle.out_io.specs.Faults.{Rose, faults_after}
use Rattle.out_io.specs.declared.fault.IoFault.{IoFault}
use Rattle.out_io.specs.declared.fault.IoFault.TheVariants.{Failed, OutOfMemory}
use Rattle.circom_words.specs.Words.{Command}
use Rattle.circom_files.specs.Asked.{PutsOnce}
use Rattle.circom_files.specs.Given.{Exits, Puts, PutsFault}
use Rattle.out_io.specs.Held.{Becomes, OfAll}
use Rattle.circom_files.specs.Reply.{Reply, store_failed}
use Rattle.circom_files.specs.Shown.{shown}
use Rattle.circom_files.specs.declared.reply.Reply.{Reply as CodeReply}
use Rattle.circom_gold.specs.Answering.{ExitsBy, Fits, IsAnswered, IsReply, PutsAnswer, Writing}
use Rattle.circom_gold.specs.Asking.{Asked}
use Rattle.circom_gold.specs.Course.{Course, Device, HasFailed, IsUnasked, course}
use Rattle.circom_gold.specs.Means.{Means}
use Rattle.circom_gold.specs.Run.{Did, Does, Ends, IsReplied, MeansIn, Stays, StopsAtFault}
use Rattle.circom_gold.proofs.Asking.{reads_nothing}
use Rattle.circom_gold.proofs.Replies.{in_part, no_fault_status, usage_alone}

some_of : (result : Result ℕ AllocError) (P : ℕ → Type 0) → IfOk result P
    → IfSome (result_ok result) P
some_of (Ok exit) P h = h
some_of (Err e) P h = tt

module _ (command : Option Command) (store : Course Contents) (sink : Course (List ℕ)) where
  abbrev Meaning : ℕ → Type 0
  Meaning exit = IfSome command (λ c. exit ≢ 3 → MeansIn c store sink exit)

  -- nothing was put or written
  pub did_nothing : store.new ≡ store.old → sink.new ≡ sink.old
      → Did command store sink None
  did_nothing still unput = record {
    ended = tt;
    kept = inl (record { text = inl unput; files = still });
    means = tt;
  }

  -- the reply is given
  module _ (r : Reply) (result : Result ℕ AllocError)
      (is : IsReply command r store.old store.new)
      (puts : Puts r sink.failed result sink.old sink.new) where
    abbrev Put : ℕ → Type 0
    Put exit =
        ((exit ≡ r.status) × (sink.new ≡ sink.old ++ r.text)) ⊎ ((exit ≡ 3) × sink.failed)

    given_end : (exit : ℕ) → Put exit → Ends command store sink exit
    given_end exit (inl whole) =
        inl (
          r,
          is.answers,
          inl (record { status = whole.0; text = whole.1; files = is.leaves }),
        )
    given_end exit (inr lost) =
        inl (
          r,
          is.answers,
          inr (record { status = lost.0; failed = lost.1; files = is.leaves }),
        )

    given_meaning : (exit : ℕ) → Put exit → Meaning exit
    given_meaning exit put = by command is.means put
      where
        by : (o : Option Command)
            → IfSome o (λ c. Means c store.old store.new r.status r.text) → Put exit
            → IfSome o (λ c. exit ≢ 3 → MeansIn c store sink exit)
        by None m put = tt
        by (Some c) m (inl whole) = λ differs. (
          r.text,
          whole.1,
          subst (λ (n : ℕ). Means c store.old store.new n r.text) (sym whole.0) m,
        )
        by (Some c) m (inr lost) = λ differs. absurd (differs lost.0)

    pub did_given : Did command store sink (result_ok result)
    did_given = record {
      ended = some_of result (Ends command store sink)
          (IfOk-weaker result Put (Ends command store sink) given_end puts.whole);
      kept =
          inr (
            r,
            is.answers,
            record {
              text = inl puts.front;
              files = in_part r.file store.old store.new is.leaves;
            },
          );
      means = some_of result Meaning (IfOk-weaker result Put Meaning given_meaning puts.whole);
    }

  -- the store failed, or memory is wanted
  module _ (fault : IoFault) (result : Result ℕ AllocError)
      (writing : Writing command store.old store.new) (failed : fault ≡ Failed → store.failed)
      (exits : IfOk result (λ exit. (fault ≡ Failed) × (exit ≡ 3)))
      (puts : PutsFault fault sink.failed result sink.old sink.new) where
    failed_kept : Stays command store sink
    failed_kept = elim puts.front [
      | inl unput ↦
          elim writing [
            | inl same ↦ inl (record { text = inl unput; files = same })
            | inr part ↦
                inr (
                  part.0,
                  part.1,
                  record { text = inl (0, nothing unput); files = part.2 },
                )
          ]
      | inr said ↦
          elim writing [
            | inl same ↦ inl (record { text = inr (failed said.0, said.1); files = same })
            | inr part ↦
                inr (
                  part.0,
                  part.1,
                  record { text = inr (failed said.0, said.1); files = part.2 },
                )
          ]
    ]
      where
        nothing : sink.new ≡ sink.old → sink.new ≡ sink.old ++ []
        nothing same = same ∙ sym (append-nil sink.old)

    pub did_failed : Did command store sink (result_ok result)
    did_failed = by result exits puts.whole
      where
        by : (x : Result ℕ AllocError) → IfOk x (λ exit. (fault ≡ Failed) × (exit ≡ 3))
            → IfOk x (λ exit. (sink.new ≡ sink.old ++ store_failed.text) ⊎ sink.failed)
            → Did command store sink (result_ok x)
        by (Err e) out put = record { ended = tt; kept = failed_kept; means = tt }
        by (Ok exit) out put = record {
          ended = inr (record { status = out.1; failed = failed out.0; text = put });
          kept = failed_kept;
          means = meaning command;
        }
          where
            meaning : (o : Option Command)
                → IfSome o (λ c. exit ≢ 3 → MeansIn c store sink exit)
            meaning None = tt
            meaning (Some c) = λ differs. absurd (differs out.1)

module _ (command : Option Command) (store : Device Contents) (sink : Device (List ℕ)) where
  -- nothing was asked, written or put
  pub does_nothing : OfAll store.new store.old
      → ((text : List ℕ) → sink.new text → sink.old text) → IsUnasked store
      → sink.calls_after ≡ sink.calls → Does command store sink None
  does_nothing still unput unasked unsaid = record {
    does = λ after may text has. (
      after,
      still after may,
      text,
      unput text has,
      did_nothing command (course store after after) (course sink text text) refl refl,
    );
    fault = tt;
    unread = λ none. (unasked, tt);
    asks = (store.calls, reads_nothing command store.calls, inl unasked.0);
    first = inl unasked.1;
    puts = inl unsaid;
    only_unread = tt;
  }

  -- what is known of the status
  module _ (result : Result ℕ AllocError) where
    abbrev Unread : ℕ → Type 0
    Unread exit = (exit ≡ 64) ⊎ HasFailed sink

    abbrev Fault : ℕ → Type 0
    Fault exit = exit ≡ 3 → HasFailed store ⊎ HasFailed sink

    abbrev OnlyUnread : ℕ → Type 0
    OnlyUnread exit = exit ≡ 64 → command ≡ None

    given_fault : (r : Reply) → Fits command r → (exit : ℕ)
        → Exits r.status (HasFailed sink) exit → Fault exit
    given_fault r fits exit (inl whole) = λ three.
        absurd (no_fault_status command r fits (sym whole ∙ three))
    given_fault r fits exit (inr lost) = λ three. inr lost.1

    given_only : (r : Reply) → Fits command r → (exit : ℕ)
        → Exits r.status (HasFailed sink) exit → OnlyUnread exit
    given_only r fits exit (inl whole) = λ is. usage_alone command r fits (sym whole ∙ is)
    given_only r fits exit (inr lost) = λ is. absurd (omega (arith, lost.0, is))

    given_unread : (r : Reply) → Fits command r → command ≡ None → (exit : ℕ)
        → Exits r.status (HasFailed sink) exit → Unread exit
    given_unread r fits none exit (inl whole) =
        let usage = subst (λ (o : Option Command). Fits o r) none fits in
        inl (whole ∙ ap (λ (x : Reply). x.status) usage)
    given_unread r fits none exit (inr lost) = inr lost.1

  -- the store's fault ends the run
  first_fault : (fault : IoFault) (result : Result ℕ AllocError)
      → store.faults_after ≡ faults_after {T = CodeReply} (Err fault) store.faults
      → IfOk result (ExitsBy (Err fault) (HasFailed sink))
      → StopsAtFault store (result_ok result)
  first_fault Failed result more exits = inr (
    more,
    some_of result (λ exit. exit ≡ 3)
        (IfOk-weaker result (ExitsBy (Err Failed) (HasFailed sink)) (λ exit. exit ≡ 3)
        (λ exit e. e.1) exits),
  )
  first_fault OutOfMemory result same exits = inl same

  -- the answer is put
  pub does_answered : (answer : Result CodeReply IoFault) (result : Result ℕ AllocError)
      → IsAnswered command store answer → Asked command store.calls store.calls_after
      → store.faults_after ≡ faults_after answer store.faults
      → IfOk result (ExitsBy answer (HasFailed sink))
      → Becomes (PutsAnswer answer (HasFailed sink) result) sink.old sink.new
      → PutsOnce sink.calls sink.calls_after
      → Does command store sink (result_ok result)
  does_answered (Ok reply) result h asks counted exits puts once = record {
    asks = asks;
    first = inl counted;
    puts = once;
    does = λ after may text has.
        let a = h.replied after may in
        let p = puts text has in (
          a.0,
          a.1,
          p.0,
          p.1,
          did_given command (course store a.0 after) (course sink p.0 text) (shown reply) result
              a.2 p.2,
        );
    fault = some_of result (Fault result)
        (IfOk-weaker result (Exits (shown reply).status (HasFailed sink)) (Fault result)
        (given_fault result (shown reply) h.fits) exits);
    unread = λ none. (
      (h.unread none).0,
      some_of result (Unread result)
          (IfOk-weaker result (Exits (shown reply).status (HasFailed sink)) (Unread result)
          (given_unread result (shown reply) h.fits none) exits),
    );
    only_unread = some_of result (OnlyUnread result)
        (IfOk-weaker result (Exits (shown reply).status (HasFailed sink)) (OnlyUnread result)
        (given_only result (shown reply) h.fits) exits);
  }
  does_answered (Err fault) result h asks counted exits puts once = record {
    asks = asks;
    first = first_fault fault result counted exits;
    puts = once;
    does = λ after may text has.
        let k = h.kept after may in
        let p = puts text has in (
          k.0,
          k.1,
          p.0,
          p.1,
          did_failed command (course store k.0 after) (course sink p.0 text) fault result k.2
              failed exits p.2,
        );
    fault = some_of result (Fault result)
        (IfOk-weaker result (λ exit. (fault ≡ Failed) × (exit ≡ 3)) (Fault result)
        (λ exit out three. inl (failed out.0)) exits);
    unread = λ none. (
      (h.unread none).0,
      some_of result (Unread result)
          (IfOk-weaker result (λ exit. (fault ≡ Failed) × (exit ≡ 3)) (Unread result)
          (λ exit out. absurd ((h.unread none).1 (ap Err out.0))) exits),
    );
    only_unread = some_of result (OnlyUnread result)
        (IfOk-weaker result (λ exit. (fault ≡ Failed) × (exit ≡ 3)) (OnlyUnread result)
        (λ exit out is. absurd (omega (arith, out.1, is))) exits);
  }
    where
      failed : fault ≡ Failed → HasFailed store
      failed is = h.fault (ap Err is)

-- what is done for one reading of the words is done for the other, where they are the same
pub does_so : {a b : Option Command} → a ≡ b → (store : Device Contents)
    (sink : Device (List ℕ)) (status : Option ℕ) → Does a store sink status
    → Does b store sink status
does_so same store sink status h =
    subst (λ (x : Option Command). Does x store sink status) same h

-- ---- over memory where no call fails

unfailed : (before after : ℕ) → before ≡ 0 → after ≡ before → Rose before after → ⊥
unfailed before after zero same rose = omega (arith, zero, same, rose)

module _ (command : Option Command) (store : Device Contents) (sink : Device (List ℕ))
    (none : store.faults ≡ 0) (still : store.faults_after ≡ store.faults)
    (no_more : sink.faults ≡ 0) (same : sink.faults_after ≡ sink.faults) where
  store_well : ¬ HasFailed store
  store_well rose = unfailed store.faults store.faults_after none still rose

  sink_well : ¬ HasFailed sink
  sink_well rose = unfailed sink.faults sink.faults_after no_more same rose

  not_three : (exit : ℕ) → (exit ≡ 3 → HasFailed store ⊎ HasFailed sink) → exit ≢ 3
  not_three exit fault three = elim (fault three) [
    | inl rose ↦ store_well rose
    | inr rose ↦ sink_well rose
  ]

  pub no_threes : (result : Result ℕ AllocError) → Does command store sink (result_ok result)
      → IfOk result (λ exit. exit ≢ 3)
  no_threes (Ok exit) h = not_three exit h.fault
  no_threes (Err e) h = tt

  -- what it holds is one thing
  module _ (after files : Contents) (now was : List ℕ) (held : store.new after)
      (had : sink.new now) (one : (c : Contents) → store.old c → c ≡ files)
      (only : (text : List ℕ) → sink.old text → text ≡ was) where
    abbrev Replied : ℕ → Type 0
    Replied exit = (text : List ℕ) × (now ≡ was ++ text)
        × IsReplied command files after exit text

    replied_so : (exit : ℕ) → Does command store sink (Some exit) → Replied exit
    replied_so exit h =
        let d = h.does after held now had in
        subst (λ (c : Contents). (text : List ℕ) × (now ≡ was ++ text)
        × IsReplied command c after exit text) (one d.0 d.1)
        (subst (λ (old : List ℕ). (text : List ℕ) × (now ≡ old ++ text)
        × IsReplied command d.0 after exit text) (only d.2 d.3)
        (by d.0 d.2 d.4.ended d.4.means))
      where
        by : (c : Contents) (old : List ℕ)
            → Ends command (course store c after) (course sink old now) exit
            → Meaning command (course store c after) (course sink old now) exit
            → (text : List ℕ) × (now ≡ old ++ text) × IsReplied command c after exit text
        by c old (inl (r, answers, inl given)) means = (
          r.text,
          given.text,
          record {
            reply = r;
            answers = answers;
            status = given.status;
            said = refl;
            leaves = given.files;
            means = meant command means;
          },
        )
          where
            meant : (o : Option Command)
                → IfSome o
                (λ x. exit ≢ 3 → MeansIn x (course store c after) (course sink old now) exit)
                → IfSome o (λ x. Means x c after exit r.text)
            meant None m = tt
            meant (Some x) m =
                let said = m (not_three exit h.fault) in
                let equal : said.0 ≡ r.text =
                append_cancel_left old said.0 r.text (sym said.1 ∙ given.text) in
                subst (λ (t : List ℕ). Means x c after exit t) equal said.2
        by c old (inl (r, answers, inr lost)) means = absurd (sink_well lost.failed)
        by c old (inr fault) means = absurd (store_well fault.failed)

    pub replies : (result : Result ℕ AllocError) → Does command store sink (result_ok result)
        → IfOk result Replied
    replies (Ok exit) h = replied_so exit h
    replies (Err e) h = tt

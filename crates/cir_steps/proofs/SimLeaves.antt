-- All statements of a body run beside their steps, where their names are in scope.
use Rattle.std.proofs.Common.{ℕ}
use Rattle.cir_ast.specs.declared.program.Spot.{Spot}
use Rattle.cir_ast.specs.declared.program.Meant.{Meant}
use Rattle.cir_ast.specs.Tree.{Assigned, Statement, Block, If, IfElse, While, For, Return, Assert}
use Rattle.cir_ast.specs.Tree.{Log, Ended, Statements, empty, then_more}
use Rattle.cir_meaning.specs.Frame.{Context}
use Rattle.cir_meaning.specs.Scoped.{Scope, behind_first, closed, behind, IsScoped, AreScoped}
use Rattle.cir_meaning.specs.Statement.{first_simple}
use Rattle.cir_meaning.specs.Run.{Wires}
use Rattle.cir_meaning.specs.RunSimple.{Runner, Running}
use Rattle.cir_meaning.proofs.Likes.{CallKeeps}
use Rattle.cir_meaning.proofs.ScopeLaws.{grows, IsSound as IsSoundScope, sound_first, sound_closed}
use Rattle.cir_meaning.proofs.ScopeLaws.{sound}
use Rattle.cir_meaning.proofs.ScopedQuiet.{everything, first_scoped, simple_wide}
use Rattle.cir_meaning.proofs.Standing.{Start}
use Rattle.cir_meaning.proofs.Starting.{BodiesRun}
use Rattle.cir_meaning.proofs.VariableRuns.{Soundly}
use Rattle.cir_steps.specs.RunSteps.{Calling}
use Rattle.cir_steps.specs.Making.{Caster}
use Rattle.cir_steps.proofs.Knowing.{IsSound}
use Rattle.cir_steps.proofs.SimWalk.{SimLeaves, Means, AllMean}
use Rattle.cir_steps.proofs.SimSetting.{assigned_sim}
use Rattle.cir_steps.proofs.SimWires.{wired_sim}
use Rattle.cir_steps.proofs.SimCreated.{Casts, created_sim}
use Rattle.cir_steps.proofs.SimParts.{declared_sim}
use Rattle.cir_steps.proofs.SimSteps.{compared_sim, asserted_sim}
use Rattle.cir_steps.proofs.SimLogs.{logged_sim}
use Rattle.cir_steps.proofs.SimDecided.{decided_sim}

pub all_leaves : (functions : ℕ) (k : Context) (keeps : CallKeeps k.call) (fuel : ℕ)
    (call : Calling) (body : Runner) (cast : Caster) → IsSound functions k call
    → Casts k keeps fuel call body cast → SimLeaves k keeps fuel call body cast functions
all_leaves functions k keeps fuel call body cast sound casts = record {
  assigned = λ w written n accessors a r x te.
      assigned_sim functions k keeps fuel call body cast sound w written n accessors a r x te;
  wired = wired_sim k keeps fuel call body cast functions sound;
  created = created_sim k keeps fuel call body cast sound.fine casts;
  declared = declared_sim k fuel call body cast;
  compared = compared_sim k keeps fuel call body cast sound.fine;
  asserted = asserted_sim k keeps fuel call body cast;
  logged = logged_sim k keeps fuel call body cast;
  decided = λ spot fault a r x pl.
      decided_sim functions k keeps fuel call body cast sound spot fault a r x pl;
}

-- names that are in scope mean what is there
module _ (given : Wires) (start : Start) (functions : ℕ) (q : Running)
    (sounds : Soundly (everything functions) q)
    (bodies : BodiesRun start.size q.context.make q.body) (keeps : CallKeeps q.context.call)
    (cast : Caster) where
  abbrev MeansIt : Statement Spot Meant → Type 0
  MeansIt = Means q.context keeps q.fuel q.call q.body cast functions

  mutual
    statement_means : (s : Scope) (a : Statement Spot Meant) → IsSoundScope functions s
        → IsScoped s a → MeansIt a
    statement_means s (Block spot ss) h is = statements_mean s ss h is
    statement_means s (If spot c a) h is = statement_means s a h is.1
    statement_means s (IfElse spot c a b) h is = (
      statement_means s a h is.1,
      statement_means (closed s (behind s a)) b
          (sound_closed functions s (behind s a) (grows s a) h) is.2,
    )
    statement_means s (While spot c a) h is = statement_means s a h is.1
    statement_means s (For spot first_spot f c step_spot a body) h is = (
      simple_wide given start functions q sounds bodies s (first_simple f) h
          (first_scoped s f is.0),
      simple_wide given start functions q sounds bodies (behind (behind_first s f) body)
          (Assigned a) (sound functions (behind_first s f) body (sound_first functions s f h)) is.3,
      statement_means (behind_first s f) body (sound_first functions s f h) is.2,
    )
    statement_means s (Return spot e) h is = tt
    statement_means s (Assert spot e) h is = tt
    statement_means s (Log spot arguments) h is = tt
    statement_means s (Ended spot x) h is =
        simple_wide given start functions q sounds bodies s x h is

    pub statements_mean : (s : Scope) (ss : Statements Spot Meant) → IsSoundScope functions s
        → AreScoped s ss → AllMean q.context keeps q.fuel q.call q.body cast functions ss
    statements_mean s empty h is = tt
    statements_mean s (then_more a rest) h is = (
      statement_means s a h is.0,
      statements_mean (behind s a) rest (sound functions s a h) is.1,
    )

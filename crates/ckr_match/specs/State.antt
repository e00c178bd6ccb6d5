-- The programs of this crate, the state before the first record, and what is due in a state.
use Rattle.std.specs.Prelude.{ℕ, ◌+◌, ◌==◌, Bool, true, false, if◌then◌else◌, [], None}
use Rattle.ckr_base.specs.declared.programs.NextDue.{NextDue}
use Rattle.ckr_base.specs.declared.programs.NextDue.TheVariants.{Checkpoint, Cancel}
use Rattle.ckr_jcl.specs.declared.deck.Kind.{Kind}
use Rattle.ckr_jcl.specs.declared.deck.Kind.TheVariants.{Merge, Master, Update}
use Rattle.ckr_jcl.specs.declared.deck.Parm.{Parm}
use Rattle.ckr_programs.specs.Due.{due_at}
use Rattle.ckr_match.specs.declared.state.MatchState.{MatchState}

-- a program of two inputs
abbrev pub has_two_inputs : Kind → Bool
has_two_inputs Merge = true
has_two_inputs Master = true
has_two_inputs Update = true
has_two_inputs _ = false

abbrev pub first_state : Kind → MatchState
first_state program = record {
  kind = program;
  first = 0;
  second = 0;
  rejects = 0;
  entries = 0;
  checkpointed = false;
  cancelled = false;
  closed = false;
  first_key = record { items = [] };
  second_key = record { items = [] };
  held = None;
  last = None;
}

-- 0, and 4 where a record was rejected
abbrev pub return_code : ℕ → ℕ
return_code rejects = if rejects == 0 then 0 else 4

abbrev pub due_in : Parm → MatchState → NextDue
due_in parm state = due_at parm (record {
  taken = state.first + state.second;
  checkpointed = state.checkpointed;
  cancelled = state.cancelled;
  closed = state.closed;
  return_code = return_code state.rejects;
})

-- the checkpoint that was due is done, and counted where an entry was written; or the cancel that was due is
abbrev pub served_state : NextDue → Bool → MatchState → MatchState
served_state Checkpoint written state =
    record state { checkpointed = true; entries = state.entries + (if written then 1 else 0) }
served_state Cancel written state = record state { cancelled = true }
served_state _ written state = state

-- A desk with two volumes and two initiators, decks and turns on it, and its listing.
use Rattle.std.specs.Prelude.{ℕ, Bool, true, ◌&&◌, List, [], ◌∷◌, map, replicate, length, codes, Option, None, Some}
use Rattle.std.specs.Option.{option_map_or}
use Rattle.ckr_base.specs.declared.code.Code.{Code}
use Rattle.ckr_base.specs.declared.code.Code.TheVariants.{System}
use Rattle.ckr_console.specs.declared.question.Answer.{Answer}
use Rattle.ckr_console.specs.declared.question.Answer.TheVariants.{Yes}
use Rattle.ckr_jcl.specs.declared.deck.Job.{Job}
use Rattle.ckr_library.specs.declared.sets.Part.{Part}
use Rattle.ckr_library.specs.NameMaps.{Name}
use Rattle.ckr_volumes.specs.declared.layout.Layout.{Layout}
use Rattle.ckr_points.specs.Payload.{carries}
use Rattle.ckr_points.specs.Office.{no_office}
use Rattle.ckr_points.specs.Rows.{TableSet}
use Rattle.ckr_points.specs.Soundness.{may_come}
use Rattle.ckr_points.specs.declared.reply.Reply.{Reply}
use Rattle.ckr_desk_turn.specs.declared.taking.Taking.TheVariants.{Taken}
use Rattle.ckr_desk_turn.specs.Desk.{DeskModel, TurnDone, opened, submitted}
use Rattle.ckr_desk_turn.specs.Turns.{AnsweredTurn, desk_after, replies_of, turn_of}

abbrev pub layout : Layout
layout = record {
  version = 2;
  initiators = 2;
  units = 2;
  volumes = record { items = record { serial = codes "VOL001"; start = 100512; bytes = 200000 } ∷ record { serial = codes "VOL002"; start = 300512; bytes = 200000 } ∷ [] };
  eligible = record { items = System 1 ∷ System 755 ∷ System 2871 ∷ [] };
  book = 100000;
  image = 0;
}

-- the desk before the first deck
abbrev pub fresh : DeskModel
fresh = opened layout no_office

-- the desk behind a deck; one that is refused is left out
abbrev pub with_deck : Option Job → DeskModel → DeskModel
with_deck None state = state
with_deck (Some deck) state = submitted [] deck state

-- a turn whose step has its volumes, and in which the operator says yes if he is asked, or something else
abbrev pub turn_by : ℕ → AnsweredTurn
turn_by initiator = record { turn = record { turn = record { initiator = initiator; fail = None }; taking = Taken }; answer = Yes }

abbrev pub turns_by : ℕ → ℕ → List AnsweredTurn
turns_by initiator count = replicate count (turn_by initiator)

abbrev pub failing : Code → AnsweredTurn
failing code = record { turn = record { turn = record { initiator = 1; fail = Some code }; taking = Taken }; answer = Yes }

abbrev pub with_answer : Answer → AnsweredTurn → AnsweredTurn
with_answer answer one = record one { answer = answer }

abbrev pub done_of : DeskModel → AnsweredTurn → TurnDone
done_of state one = turn_of state one.turn one.answer

-- the replies to so many turns of the first initiator
abbrev pub replies : ℕ → DeskModel → List Reply
replies count state = replies_of (turns_by 1 count) state

abbrev pub behind : ℕ → DeskModel → DeskModel
behind count state = desk_after (turns_by 1 count) state

-- the system fails, and the desk is opened again
abbrev pub reopened : DeskModel → DeskModel
reopened state = opened state.layout state.office

-- a line of the listing: the name, the serial of its first volume, the catalog mark, the record length, the length, the space, the stamp
pub record Listed : Type 0 where
  pub name : Name
  pub volume : ℕ
  pub cataloged : Bool
  pub lrecl : ℕ
  pub length : ℕ
  pub space : ℕ
  pub stamp : ℕ × ℕ × ℕ

abbrev pub first_volume : List Part → ℕ
first_volume [] = 0
first_volume (part ∷ parts) = part.volume

abbrev pub listed_one : Name × TableSet → Listed
listed_one entry = record {
  name = entry.0;
  volume = first_volume entry.1.set.parts.items;
  cataloged = entry.1.set.cataloged;
  lrecl = entry.1.set.lrecl;
  length = entry.1.set.length;
  space = entry.1.set.space;
  stamp = (entry.1.set.stamp.run, entry.1.set.stamp.step, entry.1.set.stamp.rewrites);
}

abbrev pub listing : DeskModel → List Listed
listing state = map listed_one state.office.tables.sets

abbrev pub line : Name → ℕ → Bool → ℕ → ℕ → ℕ → ℕ × ℕ × ℕ → Listed
line name volume cataloged lrecl length space stamp = record {
  name = name;
  volume = volume;
  cataloged = cataloged;
  lrecl = lrecl;
  length = length;
  space = space;
  stamp = stamp;
}

-- whether each event of the turns may come, and carries what the jobs give
abbrev pub all_come : List AnsweredTurn → DeskModel → Bool
all_come [] state = true
all_come (one ∷ turns) state =
    let done = done_of state one in
    option_map_or (λ event. may_come state.layout state.office (event, None) && carries state.layout state.office event None) done.event true
    && all_come turns done.desk

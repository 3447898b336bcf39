-- How a sink stands for an ideal one, by its supply.
use Rattle.std.proofs.Common.{◌≡◌, ◌∙◌, Bool, true, List, [], Option, None, IfSome, sym, ap, subst}
use Rattle.gp_cluster.specs.declared.message.Sent.{Sent}
use Rattle.gp_disk.specs.declared.memory.MemoryDisk.{MemoryDisk}
use Rattle.gp_translate.specs.declared.rule.Rule.{Rule}
use Rattle.gp_script.specs.declared.report.Report.{Report}
use Rattle.gp_ideal.specs.declared.config.Config.{Config}
use Rattle.gp_sink.specs.Sink.{SinkState}
use Rattle.gp_world.specs.Run.{IsRight}
use Rattle.gp_world.specs.World.{IsSink, Out, Choice, Fixed}
use Rattle.gp_world.specs.World as ideal
use Rattle.gp_power.specs.declared.power.Powered.{Powered}
use Rattle.gp_power.specs.declared.power.Supply.TheVariants.{On, Off}
use Rattle.gp_power.specs.Stands.{StandsFor, StandsIn, IsSetUp, rules_of}
use Rattle.gp_power.specs.Comes.{Outcome, Decides, taken}

-- with power
pub stands_on : (new : Powered) (sink : SinkState MemoryDisk) (model : ideal.Powered) → new.config ≡ model.sink.config → new.supply ≡ On sink → sink.config ≡ model.sink.config → sink.rules ≡ model.sink.rules
    → StandsIn model.phase model.sink.ledger model.armed (On sink) → StandsFor new model
stands_on new sink model config supply set_up rules phase = record {
  config = config;
  set_up = subst (IsSetUp new.config) (sym supply) (set_up ∙ sym config);
  rules = ap rules_of supply ∙ rules;
  phase = subst (StandsIn model.phase model.sink.ledger model.armed) (sym supply) phase;
}

-- without
pub stands_off : (new : Powered) (kept : List Rule) (disk : MemoryDisk) (model : ideal.Powered) → new.config ≡ model.sink.config → new.supply ≡ Off kept disk → kept ≡ model.sink.rules
    → StandsIn model.phase model.sink.ledger model.armed (Off kept disk) → StandsFor new model
stands_off new kept disk model config supply rules phase = record {
  config = config;
  set_up = subst (IsSetUp new.config) (sym supply) tt;
  rules = ap rules_of supply ∙ rules;
  phase = subst (StandsIn model.phase model.sink.ledger model.armed) (sym supply) phase;
}

-- as before
pub restated : (old new : Powered) (model : ideal.Powered) → new.config ≡ old.config → new.supply ≡ old.supply → StandsFor old model → StandsFor new model
restated old new model config supply h = record {
  config = config ∙ h.config;
  set_up = subst (IsSetUp new.config) (sym supply) (subst (λ (c : Config). IsSetUp c old.supply) (sym config) h.set_up);
  rules = ap rules_of supply ∙ h.rules;
  phase = subst (StandsIn model.phase model.sink.ledger model.armed) (sym supply) h.phase;
}

-- what an event makes in which no bit is taken
pub settled : (made : Bool → Out) (says : List Report) (puts : List Sent) (new : Powered) (took : Option Bool) (next : ideal.Powered)
    → (made true).node ≡ IsSink next → StandsFor new next → (made true).says ≡ says → (made true).puts ≡ puts → (made true).airs ≡ [] → (made true).choice ≡ Fixed → took ≡ None → Outcome made says puts new took
settled made says puts new took next node stands said put airs choice none = record {
  bit = true;
  next = next;
  node = node;
  stands = stands;
  says_are = said;
  puts_are = put;
  airs_are = airs;
  right = subst (λ (c : Choice). IsRight c true) (sym choice) tt;
  takes = none ∙ ap (λ (c : Choice). taken c true) (sym choice);
  decides = subst (λ (t : Option Bool). IfSome t (Decides made new.supply)) (sym none) tt;
}

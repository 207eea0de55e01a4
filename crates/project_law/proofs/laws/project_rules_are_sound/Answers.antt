use Rattle.project_store.specs.Entities.{entity_at}
use Rattle.exec_tree.specs.TreeFault.{nothing_seen}
use Rattle.exec_tree.specs.Built.{main_of}
use Rattle.project_law.proofs.SoundLemmas.{sound, channel_is_there, first_is_there}
use Rattle.project_law.proofs.laws.project_rules_are_sound.Goals as goal

pub returns-clause-sound : goal.returns-clause-sound
returns-clause-sound c = λ store script none.
    sound store script (c.trees_are_sound.ensures.distinct nothing_seen (entity_at store) (main_of store) none)
    (c.trees_are_sound.ensures.choices nothing_seen (entity_at store) (main_of store) none) (λ n h. c.trees_are_sound.ensures.works (entity_at store) (main_of store) n h)

pub returns-clause-channels : goal.returns-clause-channels
returns-clause-channels c = λ store script t n legal next. channel_is_there store n (c.trees_are_sound.ensures.channels nothing_seen (entity_at store) (main_of store) n)

pub returns-clause-first : goal.returns-clause-first
returns-clause-first c = first_is_there

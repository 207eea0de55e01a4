use Rattle.tree_tests.proofs.trees.a_look_at_a_place_finds_its_node.Given as goal

abbrev pub ghosts-looked_at : goal.ghosts-looked_at
ghosts-looked_at g a = record { name = a.blank.name; parts = a.blank.parts }

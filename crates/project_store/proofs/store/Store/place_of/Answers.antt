use Rattle.project_store.proofs.store.Store.place_of.Goals as goal

pub returns-clause-found : goal.returns-clause-found
returns-clause-found c = λ i. rw (← c.self.view_is) (c.place_of.ensures.found i)

-- How the errors of lower crates come out.
use Rattle.p21_lex.specs.declared.error.LexErr.TheVariants as lexes
use Rattle.p21_parse.specs.declared.error.ReadErr.{ReadErr}
use Rattle.p21_parse.specs.declared.error.ReadErr.TheVariants as reads
use Rattle.entity_read.specs.declared.error.TypeErr.{TypeErr}
use Rattle.entity_read.specs.declared.error.TypeErr.TheVariants as types
use Rattle.project_store.specs.declared.error.StoreErr.{StoreErr}
use Rattle.project_store.specs.declared.error.StoreErr.TheVariants as stores
use Rattle.edit_rules.specs.declared.error.ProjErr.{ProjErr}
use Rattle.edit_rules.specs.declared.error.ProjErr.TheVariants as projects
use Rattle.project_read.specs.declared.reason.ProjectReason.TheVariants.{Read, Attribute, Store, Tree, Definition}
use Rattle.project_read.specs.declared.reason.ProjectErr.{ProjectErr}
use Rattle.project_read.specs.declared.reason.ProjectErr.TheVariants.{Refused, NoMemory}

abbrev pub from_read : ReadErr → ProjectErr
from_read reads.NoMemory = NoMemory
from_read (reads.Lex lexes.NoMemory) = NoMemory
from_read fault = Refused (Read fault)

abbrev pub from_type : TypeErr → ProjectErr
from_type types.NoMemory = NoMemory
from_type fault = Refused (Attribute fault)

abbrev pub from_store : StoreErr → ProjectErr
from_store stores.NoMemory = NoMemory
from_store fault = Refused (Store fault)

abbrev pub from_accept : ProjErr → ProjectErr
from_accept (projects.Tree fault) = Refused (Tree fault)
from_accept (projects.Definition n fault) = Refused (Definition n fault)
from_accept projects.NoMemory = NoMemory

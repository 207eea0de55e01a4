pub mod CanPutLemmas

pub mod GeneratingLemmas

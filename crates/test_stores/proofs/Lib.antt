mod GrowingLemmas

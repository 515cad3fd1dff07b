mod FeedsInOrder

mod AddedNodes
